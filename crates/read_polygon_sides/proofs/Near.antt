-- Vertices that stand in one part: what the part holds of the list, and one vertex more.
use Prim.Native.Nat.{ℕ, ◌+◌, ◌-◌, ◌*◌, ◌≤◌, ◌<◌}
use native.Mathlib.Nat.{add-zero, eq-or-lt_of_le}
use native.Mathlib.Omega.{arith}
use mathlib.Core.Path.{◌≡◌, refl, sym, ap, ◌∙◌}
use mathlib.Core.Bool.{true}
use mathlib.Core.List.{List}
use mathlib.Core.Logic.{◌⊎◌, ⊎_elim}
use lib.ListN.{length, take, drop, take-append-drop}
use Rattle.fields.specs.Bytes.{le_at, cut}
use Rattle.fields.specs.Put.{put}
use Rattle.fields.proofs.Cuts.{cut_drop}
use Rattle.fields.proofs.Puts.{length_put}
use Rattle.strip.specs.Cell.{Vec3, vec_words}
use Rattle.read_grammar.specs.Polygons.{vertex_of}
use Rattle.read_lists.specs.declared.Cursor.{Cursor}
use Rattle.read_lists.specs.Lists.{item, list_bytes}
use Rattle.read_lists.specs.Listed.{Readable}
use Rattle.read_lists.specs.Cursors.{Holds}
use Rattle.read_lists.proofs.Lists.{within, length_run, run_item, item_field}
use Rattle.read_polygon_words.specs.Words.{all_below}
use Rattle.read_polygon_words.proofs.Words.{vec_three, below_first}
use Rattle.read_records.proofs.Items.{put_item}
use Rattle.read_polygon_sides.specs.Sides.{Held, Near}
use Rattle.read_polygon_sides.specs.Corner.{corner}
use Rattle.read_list_set.specs.Items.{items_in}
use Rattle.read_list_set.proofs.Runs.{item_of}
use Rattle.read_polygon_words.proofs.Below.{both_below}

-- ---- the part where a cursor stands

module _ {table : List ℕ} {i : ℕ} {c : Cursor} (h : Holds table i c) where
  -- it holds its first item
  pub holds_first : Holds table c.first c
  holds_first = let a = h.low in let b = h.high in record { stands = h.stands; inside = h.inside; low = omega arith; high = omega arith }

  module _ (system graphics : List ℕ) (w : ℕ) (r : Readable system graphics w table) {part : List ℕ} (e : part ≡ take (w * (c.first + c.count - c.first)) (drop (w * c.first) (list_bytes system graphics w table))) where
    pub part_length : length part ≡ w * c.count
    part_length =
        let d : c.first + c.count - c.first ≡ c.count = omega arith in
        length_run system graphics w table r holds_first e ∙ ap (λ (k : ℕ). w * k) d

    pub held_part : Held w (items_in system graphics w table) c.first c.count part
    held_part =
        record {
          at = λ j lo hi.
              let end = within h.stands h.inside in
              let d : c.first + (j - c.first) ≡ j = omega arith in
              let is : item w part (j - c.first) ≡ item w (list_bytes system graphics w table) j =
              ap (λ (b : List ℕ). item w b (j - c.first)) e ∙ run_item w (list_bytes system graphics w table) c.first (c.first + c.count - c.first) (j - c.first) (omega arith) ∙ ap (item w (list_bytes system graphics w table)) d in
              item_of system graphics w table j (omega arith) ∙ sym is;
        }

-- ---- indices

-- an index of a run that passed is below the limit
pub index_below : (run : List ℕ) (n limit k : ℕ) → k < n → {x : ℕ} → x ≡ le_at 2 run (2 * k) → all_below limit (cut 2 n run) ≡ true → x < limit
index_below run n limit k l ex g =
    let rest : all_below limit (drop k (cut 2 n run)) ≡ true = (both_below limit (take k (cut 2 n run)) (drop k (cut 2 n run)) (sym (take-append-drop k (cut 2 n run))) g).1 in
    (below_first run n limit k l ex (rw (cut_drop 2 k n run (omega arith)) at rest)).0

-- an index that is not in the part isn't the first one
pub gone_on : (run : List ℕ) (count : ℕ) {from k j first : ℕ} → from ≤ k → j ≡ le_at 2 run (2 * k) → first ≤ le_at 2 run (2 * from) → le_at 2 run (2 * from) < first + count → (j < first) ⊎ (first + count ≤ j) → from < k
gone_on run count {from} {k} {j} {first} l ej lo hi out = ⊎_elim here (λ m. m) (eq-or-lt_of_le l)
  where
    here : from ≡ k → from < k
    here e =
        let same : le_at 2 run (2 * from) ≡ j = ap (λ (i : ℕ). le_at 2 run (2 * i)) e ∙ sym ej in
        ⊎_elim (λ a. absurd (omega arith)) (λ a. absurd (omega arith)) out

-- ---- vertices

module _ (back : ℕ → ℕ → ℕ → Vec3) (part : List ℕ) (first count : ℕ) (run : List ℕ) (from n at : ℕ) (old : List ℕ) where
  pub none_yet : from < n → Near back part first count run from n at old from old
  none_yet l = record { low = omega arith; most = omega arith; same_length = refl; strip = λ items h. refl }

  -- one vertex more
  pub near_more : {k : ℕ} {out : List ℕ} → Near back part first count run from n at old k out → k < n → {j : ℕ} → j ≡ le_at 2 run (2 * k) → first ≤ j → j < first + count
      → {new : List ℕ} → new ≡ put (at + 3 * k) (vec_words (vertex_of back (take (6 * (j - first) + 6 - 6 * (j - first)) (drop (6 * (j - first)) part)))) out
      → Near back part first count run from n at old (k + 1) new
  unfolding item
  near_more {k} {out} g l {j} ej lo hi {new} e =
      let six : 6 * (j - first) + 6 - 6 * (j - first) ≡ 6 = omega arith in
      let stored : new ≡ put (at + 3 * k) (vec_words (vertex_of back (take 6 (drop (6 * (j - first)) part)))) out = rw six at e in
      let index : le_at 2 (take 2 (drop (2 * k) run)) 0 ≡ j = item_field 2 run k 2 0 (omega arith) ∙ ap (le_at 2 run) (add-zero (2 * k)) ∙ sym ej in
      record {
        low = let a = g.low in omega arith;
        most = omega arith;
        same_length = ap length stored ∙ length_put (at + 3 * k) (vec_words (vertex_of back (take 6 (drop (6 * (j - first)) part)))) out ∙ g.same_length;
        strip = λ items h.
            let is : corner back items (take 2 (drop (2 * k) run)) ≡ vertex_of back (take 6 (drop (6 * (j - first)) part)) = rw index (ap (vertex_of back) (h.at j lo hi)) in
            rw (stored, ← is) (put_item vec_words 3 vec_three (corner back items) 2 n run at k out l) ∙ g.strip items h;
      }
