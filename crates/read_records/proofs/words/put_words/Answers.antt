-- `put_words` meets its contract. The words that are copied over a part of the strip are stored there.
use native.Mathlib.Omega.{arith}
use Prim.Native.Nat.{ℕ, ◌+◌, ◌-◌, ◌≤◌}
use mathlib.Core.Path.{◌≡◌, sym, ap, ◌∙◌}
use mathlib.Core.List.{List, append_assoc}
use lib.ListN.{length, take, drop, length-take, length-drop}
use borrow.Rule.Slice.PartMut.{put_mid, Post-is}
use Rattle.fields.specs.Put.{put}
use Rattle.fields.proofs.Puts.{put_eq}
use Rattle.read_records.proofs.words.put_words.Goals as goal

copied : (at n : ℕ) (ws new xs : List ℕ) → new ≡ ws → length new ≡ length (take (at + n - at) (drop at xs)) → at + n ≤ length xs
    → put_mid at (at + n - at) xs new ≡ put at ws xs
copied at n ws new xs e l h =
    let low : at ≤ at + n = omega arith in
    let long : length ws ≡ n = sym (ap length e) ∙ l ∙ rw (length-take, length-drop) (omega arith) in
    let room : at + length ws ≤ length xs = omega arith in
    rw (put_eq at ws xs room, Post-is at (at + n) xs low, e, long) (sym (append_assoc (take at xs) ws (drop (at + n) xs)))

pub returns : goal.returns
returns g c = copied _ _ _ _ _ c.copy_from_slice.ensures.after c.copy_from_slice.ensures.len c.requires
