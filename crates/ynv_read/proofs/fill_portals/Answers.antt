-- `fill_portals` meets its contract. The cell's box is what shorts are turned back in.
use Prim.Native.Nat.{ℕ}
use mathlib.Core.Path.{ap, ◌∙◌}
use mathlib.Core.List.{List}
use Rattle.fields.specs.Bytes.{le_at}
use Rattle.read_decide.specs.Deciding.{portals_words}
use Rattle.ynv_read.proofs.Records.{back_is}
use Rattle.ynv_read.proofs.fill_portals.Goals as goal

pub portals_of-requires : goal.portals_of-requires
portals_of-requires c = c.requires.0.header_is

pub put_portals-requires : goal.put_portals-requires
put_portals-requires c = let n = c.portal_count-n.ensures.count ∙ ap (λ (l : List ℕ). le_at 4 l 0x14C) c.requires.0.header_is in rw (n, c.portals_of.ensures) (c.requires.1, c.requires.2)

pub returns : goal.returns
unfolding portals_words
returns c =
    let n = c.portal_count-n.ensures.count ∙ ap (λ (l : List ℕ). le_at 4 l 0x14C) c.requires.0.header_is in let back = back_is c.args.reader.system.now c.args.reader.graphics.now c.requires.0.cell_is in record {
      next = rw n;
      content = c.put_portals.ensures ∙ rw (n, c.portals_of.ensures, back);
    }
