-- What the writer decides of a strip before the leaves, and what the work words then hold. Definitions only.
use Rattle.std.specs.Prelude.{ℕ, ◌+◌, ◌*◌, ◌/◌, ◌≤◌, min, not, ◌≡◌, List, [], ◌∷◌, map, length, take, drop, ltb, Result, Ok}
use Rattle.strip.specs.Cell.{Cell, Head, NavPoly}
use Rattle.strip.specs.Box.{finite_box}
use Rattle.strip.specs.Rows.{polygons_at}
use Rattle.strip.specs.Scan.{Scanned, ok, fault, scan}
use Rattle.strip.specs.Laid.{cell_counts}
use Rattle.strip.specs.declared.Counts.{Counts}
use Rattle.strip.specs.declared.Refusal.{Refusal}
use Rattle.cell_record.specs.Record.{record_of}
use Rattle.pushed.specs.Pushed.{pushed_in, vertices_of}
use Rattle.distinct.specs.Distinct.{index_of}
use Rattle.areas.specs.Areas.{seeded}
use Rattle.areas.specs.Tables.{area_ids}
use Rattle.write_vertices.specs.Table.{met}
use Rattle.write_pages.specs.Items.{floats, corners, vertex_table, area_table, links_of}
use Rattle.write_pages.specs.Checks.{Verdict, refused, fault_if, first_fault, at, polygons_verdict}
use Rattle.write_polygon_checks.specs.Steps.{says}
use Rattle.write_decide.specs.declared.Decision.{Decision}
use Rattle.write_decide.specs.declared.WorkPlaces.{WorkPlaces}

-- ---- the verdict

-- 12 to 16, of polygons in a cell with this head, then the rest
abbrev pub on_polygons : Head → List NavPoly → Verdict → Verdict
on_polygons h ps rest = polygons_verdict (floats h.bb_min) (floats h.bb_size) [] (seeded h.area) 0 0 ps rest

-- 1, 10, 11 before them; `words` are the strip's, `work` the lent ones
unfoldable pub before_leaves : (words work : ℕ) → Verdict → Cell → Verdict
before_leaves words work rest c =
    at 0 (first_fault (fault_if (ltb (work / 4) words) 1 ∷ fault_if (not (finite_box c.head)) 10 ∷ fault_if (ltb 16383 (length c.polys)) 11 ∷ []))
    (on_polygons c.head c.polys rest)

-- 3 before all
abbrev pub on_scan : (Cell → Verdict) → Scanned → Verdict
on_scan f (ok c) = f c
on_scan f (fault number place) = refused number place

-- what an answer says, before the rest
abbrev pub decision_then : Result Decision Refusal → Verdict → Verdict
decision_then r rest = says r rest

-- ---- the work, for a strip of W words: W / 3 roots of trees, 65,536 at most; two words to each of W / 3 vertices; W / 3 indices

abbrev pub most : ℕ → ℕ
most words = words / 3

abbrev pub trees : ℕ → ℕ
trees words = min (most words) 65536

abbrev pub indices_at : ℕ → ℕ
indices_at words = trees words + 2 * most words

abbrev pub tables_end : ℕ → ℕ
tables_end words = indices_at words + most words

-- and behind them three words to a polygon's quarter box and one to a point's leaf
abbrev pub work_places : ℕ → Counts → WorkPlaces
work_places words n = record {
  vertices = trees words;
  indices = indices_at words;
  boxes = tables_end words;
  leaves = tables_end words + 3 * n.polys;
  end = tables_end words + 3 * n.polys + n.points;
}

-- work w and the answer d hold the tables of a cell with this head and these polygons, whose strip has so many words.
-- An index is the vertex's place in the whole table
pub record Tabled (words : ℕ) (h : Head) (ps : List NavPoly) (w : List ℕ) (d : Decision) : Type 0 where
  pub vertices : met w (trees words) d.vertices ≡ vertex_table (corners (floats h.bb_min) (floats h.bb_size) ps)
  pub indices : take d.corners (drop (indices_at words) w)
      ≡ map (λ k. index_of (vertex_table (corners (floats h.bb_min) (floats h.bb_size) ps)) k.vertex) (corners (floats h.bb_min) (floats h.bb_size) ps)
  pub areas : area_ids d.areas ≡ area_table h.area (corners (floats h.bb_min) (floats h.bb_size) ps)
  pub corner_count : d.corners ≡ length (corners (floats h.bb_min) (floats h.bb_size) ps)
  pub link_count : d.links ≡ length (links_of ps)
  pub pushed_count : d.pushed ≡ pushed_in (floats h.bb_min) (floats h.bb_size) (vertices_of ps)
  pub few_vertices : d.vertices ≤ d.corners
  pub few_corners : d.corners ≤ most words
  pub few_polys : 3 * length ps ≤ d.corners
  pub cell : d.cell ≡ record_of h

-- ---- promises

-- of `decide_well`, for the strip s with the head h and the counts n
pub record WellDone (s : List ℕ) (h : Head) (n : Counts) (w w' : List ℕ) (r : Result Decision Refusal) : Type 0 where
  pub verdict : (rest : Verdict) → decision_then r rest ≡ on_polygons h (polygons_at s 14 n.polys) rest
  pub long : length w' ≡ length w
  pub beyond : drop (tables_end (length s)) w' ≡ drop (tables_end (length s)) w
  pub counts_are : (d : Decision) → r ≡ Ok d → d.counts ≡ n
  pub tabled : (d : Decision) → r ≡ Ok d → Tabled (length s) h (polygons_at s 14 n.polys) w' d

-- of `decide`
pub record DecideDone (s w w' : List ℕ) (r : Result Decision Refusal) : Type 0 where
  pub verdict : (rest : Verdict) → decision_then r rest ≡ on_scan (before_leaves (length s) (length w) rest) (scan s)
  pub long : length w' ≡ length w
  pub beyond : drop (2 * length s) w' ≡ drop (2 * length s) w
  pub tabled : (d : Decision) → r ≡ Ok d → (c : Cell) → scan s ≡ ok c → Tabled (length s) c.head c.polys w' d
  pub counts_are : (d : Decision) → r ≡ Ok d → (c : Cell) → scan s ≡ ok c → d.counts ≡ cell_counts c
