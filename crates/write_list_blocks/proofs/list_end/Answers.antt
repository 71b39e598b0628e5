-- `write_list_blocks::list_end` meets its contract: behind the items stand the offsets, which take a block if there is a part.
use mathlib.Core.Path.{◌≡◌, ap, ◌∙◌}
use mathlib.Core.List.{◌∷◌}
use Prim.Native.Nat.{◌*◌}
use Rattle.write_blocks.specs.Laid.{reached}
use Rattle.write_blocks.specs.Lists.{part_count, part_sizes, offset_sizes}
use Rattle.write_blocks.specs.Optional.{size_of}
use Rattle.write_blocks.proofs.Layouts.{joined, onward}
use Rattle.write_blocks.proofs.Lists.{sizes_optional}
use Rattle.write_list_blocks.specs.declared.Parts.{Parts}
use Rattle.write_list_blocks.proofs.list_end.Goals as goal

pub alloc_some-requires : goal.alloc_some-requires
alloc_some-requires c =
    let a = c.args in
    let e = c.list_places-p.ensures in
    let k = part_count a.w a.n in
    rw (ap (λ (p : Parts). p.count) e.parts, sizes_optional k) (onward {l = a.l} (48 ∷ 16 * k ∷ part_sizes a.w a.n) (offset_sizes k) e.items (record { below = c.requires.below }))

pub returns : goal.returns
returns c =
    let a = c.args in
    let e = c.list_places-p.ensures in
    let k = part_count a.w a.n in
    let offsets : size_of (4 * c.list_places-p.result.parts.count) ≡ offset_sizes k = ap (λ (p : Parts). size_of (4 * p.count)) e.parts ∙ sizes_optional k in
    c.alloc_some.ensures ∙ ap (reached c.list_places-p.result.items) offsets ∙ joined a.l (48 ∷ 16 * k ∷ part_sizes a.w a.n) (offset_sizes k) e.items
