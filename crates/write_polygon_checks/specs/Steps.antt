-- What each step over the polygons leaves in lent memory, and what its verdict says. Work w, areas ids and their counts are those of the corners' steps.
-- Definitions only.
use Rattle.std.specs.Prelude.{ℕ, ◌+◌, ◌*◌, ◌≤◌, ◌≡◌, ◌||◌, List, [], ◌∷◌, length, take, drop, ltb, Result, Ok, Err, IsOk}
use Rattle.math.specs.declared.vec3.Vec3.{Vec3 as Floats}
use Rattle.strip.specs.Cell.{NavPoly}
use Rattle.write_vertices.specs.Table.{met}
use Rattle.write_pages.specs.Items.{corners_in, corners, links_of}
use Rattle.write_pages.specs.Checks.{Verdict, refused, fault_if, first_fault, at, polygon_fault, polygons_verdict}
use Rattle.strip.specs.Reasons.{reason_number}
use Rattle.strip.specs.declared.Reason.{Reason}
use Rattle.strip.specs.declared.Refusal.{Refusal}
use Rattle.write_corner_checks.specs.declared.Tables.{Tables}
use Rattle.write_corner_checks.specs.Steps.{HasFault, behind_table, TablesReady, Added}
use Rattle.write_polygon_checks.specs.declared.Decided.{Decided}

-- 12, 13
abbrev pub run_fault : (vertices start : ℕ) → ℕ
run_fault vertices start = first_fault (fault_if (ltb vertices 3 || ltb 2047 vertices) 12 ∷ fault_if (ltb 65535 start) 13 ∷ [])

-- ---- polygons

-- after the polygon p, whose first corner is number `start`: from the tables t to the tables t', after a refusal too. No word behind the m indices is
-- changed
pub record PolygonDone (bb-min bb-size : Floats) (w w' ids ids' : List ℕ) (b m : ℕ) (t t' : Tables) (start : ℕ) (p : NavPoly) (r : Result ℕ Reason) : Type 0 where
  pub fault : HasFault r (polygon_fault bb-min bb-size (met w b t.vertices) (take t.areas ids) start p)
  pub long : length w' ≡ length w
  pub back : drop m (behind_table w' b m) ≡ drop m (behind_table w b m)
  pub ready : TablesReady w' ids' b m t'.vertices (start + length p.vertices)
  pub least : IsOk r → 3 ≤ length p.vertices
  pub added : IsOk r → Added w w' ids ids' b m t t' start (corners_in bb-min bb-size p)

-- the same, but that nothing is said of the tables after a refusal
pub record PolygonJudged (bb-min bb-size : Floats) (w w' ids ids' : List ℕ) (b m : ℕ) (t t' : Tables) (start : ℕ) (p : NavPoly) (r : Result ℕ Reason) : Type 0 where
  pub fault : HasFault r (polygon_fault bb-min bb-size (met w b t.vertices) (take t.areas ids) start p)
  pub long : length w' ≡ length w
  pub back : drop m (behind_table w' b m) ≡ drop m (behind_table w b m)
  pub ready : IsOk r → TablesReady w' ids' b m t'.vertices (start + length p.vertices)
  pub least : IsOk r → 3 ≤ length p.vertices
  pub added : IsOk r → Added w w' ids ids' b m t t' start (corners_in bb-min bb-size p)

-- what an answer says, and then the rest
abbrev pub says : {A : Type 0} → Result A Refusal → Verdict → Verdict
says (Ok a) rest = rest
says (Err r) rest = refused (reason_number r.reason) r.place

-- an answer has this fault at the place 0, 0 for none: whatever comes after it
abbrev pub VerdictHas : {A : Type 0} → Result A Refusal → ℕ → Type 0
VerdictHas v fault = (rest : Verdict) → says v rest ≡ at 0 fault rest

-- after the polygons ps, the first of them number k, with `start` corners and l links before it
pub record PolygonsDone (bb-min bb-size : Floats) (w w' ids ids' : List ℕ) (b m : ℕ) (t : Tables) (start k l : ℕ) (ps : List NavPoly) (r : Result Decided Refusal) : Type 0 where
  pub verdict : (rest : Verdict) → says r rest ≡ polygons_verdict bb-min bb-size (met w b t.vertices) (take t.areas ids) start k ps rest
  pub long : length w' ≡ length w
  pub back : drop m (behind_table w' b m) ≡ drop m (behind_table w b m)
  pub ready : (d : Decided) → r ≡ Ok d → TablesReady w' ids' b m d.tables.vertices d.corners
  pub few : (d : Decided) → r ≡ Ok d → d.corners ≤ m
  pub many : (d : Decided) → r ≡ Ok d → start + 3 * length ps ≤ d.corners
  pub corner_count : (d : Decided) → r ≡ Ok d → d.corners ≡ start + length (corners bb-min bb-size ps)
  pub link_count : (d : Decided) → r ≡ Ok d → d.links ≡ l + length (links_of ps)
  pub added : (d : Decided) → r ≡ Ok d → Added w w' ids ids' b m t d.tables start (corners bb-min bb-size ps)
