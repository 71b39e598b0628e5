-- `write_ends::blocks_end` meets its contract: each row of blocks begins where the one before it ends, and what the sectors ask for is what was asked
-- for behind them without what was asked for before.
use Prim.Native.Nat.{ℕ, ◌+◌, ◌*◌}
use mathlib.Core.Path.{◌≡◌, sym, subst, ◌∙◌}
use mathlib.Core.List.{List, ◌++◌, append_assoc}
use native.Mathlib.Omega.{arith}
use Rattle.quarters.specs.declared.bounds.Aabb.{Aabb}
use Rattle.write_blocks.specs.Laid.{empty, reached, Within, sum_of}
use Rattle.write_blocks.specs.Optional.{size_of}
use Rattle.write_blocks.specs.declared.Layout.{Layout}
use Rattle.write_blocks.proofs.Layouts.{sum_append, joined, begins, onward}
use Rattle.write_decide.specs.declared.Decision.{Decision}
use Rattle.write_pages.specs.Sectors.{depth_of}
use Rattle.write_ends.specs.Ends.{sizes_by, lists_sizes}
use Rattle.write_ends.proofs.Behind.{within_some, asked_apart, within_first}
use Rattle.write_ends.proofs.blocks_end.Goals as goal

-- the sizes of the lists, the sectors, the portals and the links
abbrev lists : Decision → List ℕ
lists d = lists_sizes d.vertices d.corners d.counts.polys

abbrev sectors : (boxes numbers : List ℕ) → ℕ → Aabb → List ℕ
sectors boxes numbers content b = sizes_by boxes numbers (depth_of content) 0 b

abbrev portals : Decision → List ℕ
portals d = size_of (28 * d.counts.portals)

abbrev links : Decision → List ℕ
links d = size_of (2 * d.links)

module _ (d : Decision) (ss : List ℕ) (h : Within empty (lists d ++ (ss ++ (portals d ++ links d)))) where
  -- what there is room for behind the lists, the sectors and the portals
  behind_lists : (l : Layout) → l ≡ reached empty (lists d) → Within l (ss ++ (portals d ++ links d))
  behind_lists l e = onward (lists d) (ss ++ (portals d ++ links d)) e h

  behind_sectors : (l r : Layout) → l ≡ reached empty (lists d) → r ≡ reached l ss → Within r (portals d ++ links d)
  behind_sectors l r e f = onward ss (portals d ++ links d) f (behind_lists l e)

  behind_portals : (l r q : Layout) → l ≡ reached empty (lists d) → r ≡ reached l ss → q ≡ reached r (portals d) → Within q (links d)
  behind_portals l r q e f g = onward (portals d) (links d) g (behind_sectors l r e f)

  -- what was asked for before the sectors and behind them
  asked : (l r : Layout) → l ≡ reached empty (lists d) → r ≡ reached l ss → (l.asked ≡ sum_of (lists d)) × (r.asked ≡ sum_of (lists d) + sum_of ss)
  asked l r e f = asked_apart (lists d) ss e f (within_first (lists d) ss (portals d ++ links d) h)

  -- and behind the portals, which is no less
  asked_more : (l r q : Layout) → l ≡ reached empty (lists d) → r ≡ reached l ss → q ≡ reached r (portals d) → q.asked ≡ sum_of (lists d ++ ss) + sum_of (portals d)
  asked_more l r q e f g =
      let both = f ∙ joined empty (lists d) ss e in
      let room = subst (Within empty) (sym (append_assoc (lists d) ss (portals d ++ links d))) h in
      (asked_apart (lists d ++ ss) (portals d) both g (within_first (lists d ++ ss) (portals d) (links d) room)).1

pub lists_end-lists-requires : goal.lists_end-lists-requires
lists_end-lists-requires c =
    let a = c.args in
    (c.requires.0, c.requires.1, c.requires.2, begins (lists a.d) (sectors a.boxes.now a.numbers.now a.content a.b ++ (portals a.d ++ links a.d)) c.requires.3)

pub sectors_end-sectors-requires : goal.sectors_end-sectors-requires
sectors_end-sectors-requires c =
    let a = c.args in
    let ss = sectors a.boxes.now a.numbers.now a.content a.b in
    begins ss (portals a.d ++ links a.d) (behind_lists a.d ss c.requires.3 c.lists_end-lists.result c.lists_end-lists.ensures)

pub overflow_mul-d : goal.overflow_mul-d
overflow_mul-d c =
    let a = c.args in
    let ss = sectors a.boxes.now a.numbers.now a.content a.b in
    omega (arith, within_some (28 * a.d.counts.portals) (begins (portals a.d) (links a.d) (behind_sectors a.d ss c.requires.3 c.lists_end-lists.result c.sectors_end-sectors.result c.lists_end-lists.ensures c.sectors_end-sectors.ensures)))

pub alloc_some-portals-requires : goal.alloc_some-portals-requires
alloc_some-portals-requires c =
    let a = c.args in
    let ss = sectors a.boxes.now a.numbers.now a.content a.b in
    begins (portals a.d) (links a.d) (behind_sectors a.d ss c.requires.3 c.lists_end-lists.result c.sectors_end-sectors.result c.lists_end-lists.ensures c.sectors_end-sectors.ensures)

pub overflow_mul-d-2 : goal.overflow_mul-d-2
overflow_mul-d-2 c =
    let a = c.args in
    let ss = sectors a.boxes.now a.numbers.now a.content a.b in
    omega (
      arith,
      within_some (2 * a.d.links)
          (behind_portals a.d ss c.requires.3 c.lists_end-lists.result c.sectors_end-sectors.result c.alloc_some-portals.result c.lists_end-lists.ensures c.sectors_end-sectors.ensures c.alloc_some-portals.ensures),
    )

pub alloc_some-requires : goal.alloc_some-requires
alloc_some-requires c =
    let a = c.args in
    let ss = sectors a.boxes.now a.numbers.now a.content a.b in
    behind_portals a.d ss c.requires.3 c.lists_end-lists.result c.sectors_end-sectors.result c.alloc_some-portals.result c.lists_end-lists.ensures c.sectors_end-sectors.ensures c.alloc_some-portals.ensures

pub overflow_sub-result : goal.overflow_sub-result
overflow_sub-result c =
    let a = c.args in
    let ss = sectors a.boxes.now a.numbers.now a.content a.b in
    omega (
      arith,
      asked a.d ss c.requires.3 c.lists_end-lists.result c.sectors_end-sectors.result c.lists_end-lists.ensures c.sectors_end-sectors.ensures,
      asked_more a.d ss c.requires.3 c.lists_end-lists.result c.sectors_end-sectors.result c.alloc_some-portals.result c.lists_end-lists.ensures c.sectors_end-sectors.ensures c.alloc_some-portals.ensures,
      sum_append (lists a.d) ss,
    )

pub returns : goal.returns
returns c =
    let a = c.args in
    let ss = sectors a.boxes.now a.numbers.now a.content a.b in
    record {
      end = c.alloc_some.ensures
          ∙ joined _ (portals a.d) (links a.d) c.alloc_some-portals.ensures
          ∙ joined _ ss (portals a.d ++ links a.d) c.sectors_end-sectors.ensures
          ∙ joined empty (lists a.d) (ss ++ (portals a.d ++ links a.d)) c.lists_end-lists.ensures;
      sectors = omega (
        arith,
        asked a.d ss c.requires.3 c.lists_end-lists.result c.sectors_end-sectors.result c.lists_end-lists.ensures c.sectors_end-sectors.ensures,
        asked_more a.d ss c.requires.3 c.lists_end-lists.result c.sectors_end-sectors.result c.alloc_some-portals.result c.lists_end-lists.ensures c.sectors_end-sectors.ensures c.alloc_some-portals.ensures,
        sum_append (lists a.d) ss,
      );
    }
