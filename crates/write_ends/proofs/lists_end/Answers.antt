-- `write_ends::lists_end` meets its contract: each list begins where the one before it ends, and what bounds the last end bounds each.
use mathlib.Core.Path.{◌≡◌, ap, ◌∙◌}
use mathlib.Core.List.{List, [], ◌∷◌, ◌++◌}
use Prim.Native.Nat.{ℕ}
use native.Mathlib.Omega.{arith}
use Rattle.write_blocks.specs.Laid.{empty, allocated, reached, Within}
use Rattle.write_blocks.specs.Lists.{list_sizes}
use Rattle.write_blocks.specs.declared.Layout.{Layout}
use Rattle.write_blocks.proofs.Layouts.{place_near, joined, begins, onward}
use Rattle.write_ends.proofs.Behind.{within_list}
use Rattle.write_ends.proofs.lists_end.Goals as goal
use Rattle.write_ends.proofs.lists_end.Goals.{After-alloc-header}

-- the sizes from the polygons on, from the edges, the indices, the vertices
abbrev from_edges : ℕ → ℕ → List ℕ
from_edges corners polys = list_sizes 8 corners ++ list_sizes 48 polys

abbrev from_indices : ℕ → ℕ → List ℕ
from_indices corners polys = list_sizes 2 corners ++ from_edges corners polys

abbrev from_vertices : ℕ → ℕ → ℕ → List ℕ
from_vertices vertices corners polys = list_sizes 6 vertices ++ from_indices corners polys

pub alloc-header-requires : goal.alloc-header-requires
alloc-header-requires c = rw c.new.ensures (omega (arith, place_near 0 368))

-- behind the header, and what there is room for behind it and behind each list
header : (c : After-alloc-header) → c.alloc-header.result ≡ reached empty (368 ∷ [])
header c = c.alloc-header.ensures ∙ ap (λ (l : Layout). allocated l 368) c.new.ensures

module _ (v i p : ℕ) (h : Within empty (368 ∷ from_vertices v i p)) where
  room0 : (l0 : Layout) → l0 ≡ reached empty (368 ∷ []) → Within l0 (from_vertices v i p)
  room0 l0 e = onward (368 ∷ []) (from_vertices v i p) e h

  room1 : (l0 l1 : Layout) → l0 ≡ reached empty (368 ∷ []) → l1 ≡ reached l0 (list_sizes 6 v) → Within l1 (from_indices i p)
  room1 l0 l1 e f = onward (list_sizes 6 v) (from_indices i p) f (room0 l0 e)

  room2 : (l0 l1 l2 : Layout) → l0 ≡ reached empty (368 ∷ []) → l1 ≡ reached l0 (list_sizes 6 v) → l2 ≡ reached l1 (list_sizes 2 i) → Within l2 (from_edges i p)
  room2 l0 l1 l2 e f g = onward (list_sizes 2 i) (from_edges i p) g (room1 l0 l1 e f)

pub list_end-behind_vertices-requires : goal.list_end-behind_vertices-requires
list_end-behind_vertices-requires c =
    let a = c.args in
    within_list 6 a.vertices (omega arith) (omega arith) (omega (arith, c.requires.0)) (begins (list_sizes 6 a.vertices) (from_indices a.corners a.polys) (room0 a.vertices a.corners a.polys c.requires.3 c.alloc-header.result (header c)))

pub list_end-behind_indices-requires : goal.list_end-behind_indices-requires
list_end-behind_indices-requires c =
    let a = c.args in
    within_list 2 a.corners (omega arith) (omega arith) (omega (arith, c.requires.1)) (begins (list_sizes 2 a.corners) (from_edges a.corners a.polys) (room1 a.vertices a.corners a.polys c.requires.3 c.alloc-header.result c.list_end-behind_vertices.result (header (goal.at.list_end-behind_indices-requires c).After-alloc-header) c.list_end-behind_vertices.ensures))

pub list_end-behind_edges-requires : goal.list_end-behind_edges-requires
list_end-behind_edges-requires c =
    let a = c.args in
    within_list 8 a.corners (omega arith) (omega arith) (omega (arith, c.requires.1)) (begins (list_sizes 8 a.corners) (list_sizes 48 a.polys) (room2 a.vertices a.corners a.polys c.requires.3 c.alloc-header.result c.list_end-behind_vertices.result c.list_end-behind_indices.result (header (goal.at.list_end-behind_edges-requires c).After-alloc-header) c.list_end-behind_vertices.ensures c.list_end-behind_indices.ensures))

pub list_end-requires : goal.list_end-requires
list_end-requires c =
    let a = c.args in
    within_list 48 a.polys (omega arith) (omega arith) (omega (arith, c.requires.2)) (onward (list_sizes 8 a.corners) (list_sizes 48 a.polys) c.list_end-behind_edges.ensures (room2 a.vertices a.corners a.polys c.requires.3 c.alloc-header.result c.list_end-behind_vertices.result c.list_end-behind_indices.result (header (goal.at.list_end-requires c).After-alloc-header) c.list_end-behind_vertices.ensures c.list_end-behind_indices.ensures))

pub returns : goal.returns
returns c =
    let a = c.args in
    c.list_end.ensures
    ∙ joined _ (list_sizes 8 a.corners) (list_sizes 48 a.polys) c.list_end-behind_edges.ensures
    ∙ joined _ (list_sizes 2 a.corners) (from_edges a.corners a.polys) c.list_end-behind_indices.ensures
    ∙ joined _ (list_sizes 6 a.vertices) (from_indices a.corners a.polys) c.list_end-behind_vertices.ensures
    ∙ joined empty (368 ∷ []) (from_vertices a.vertices a.corners a.polys) (header (goal.at.returns c).After-alloc-header)
