-- The numbers of the faces, one polygon behind the other, are 1 to the number of vertices, once each and in order. Assumes nothing.
use Prim.Native.Nat.{ℕ, zero, suc, ◌+◌, ◌<◌}
use mathlib.Core.Path.{◌≡◌, refl, sym, ap, ◌∙◌}
use mathlib.Core.List.{List, [], ◌∷◌, ◌++◌}
use native.Mathlib.Nat.{add-zero, zero-add, not-suc-le-zero}
use native.Mathlib.Omega.{arith}
use lib.ListN.{length, get_or}
use Rattle.fields.specs.Bytes.{cat}
use Rattle.strip.specs.Cell.{NavPoly}
use Rattle.strip.specs.Reading.{items_at}
use Rattle.strip.proofs.Steps.{items_length}
use Rattle.obj_lines.specs.Lines.{consecutive}
use Rattle.obj_text.specs.Text.{face_numbers}
use Rattle.obj_text.specs.Counts.{vertex_count}

-- numbers one after the other: how many, and which
pub numbers_length : (first n : ℕ) → length (consecutive first n) ≡ n
numbers_length first n = items_length (λ k. k) (λ k. k + 1) n first

pub number_at : (n first i : ℕ) → i < n → get_or (consecutive first n) i 0 ≡ first + i
unfolding items_at
number_at zero first i h = absurd (not-suc-le-zero h)
number_at (suc n) first zero h = sym (add-zero first)
number_at (suc n) first (suc i) h = number_at n (first + 1) i (omega arith) ∙ omega arith

-- two runs of them
numbers_append : (m first n : ℕ) → consecutive first m ++ consecutive (first + m) n ≡ consecutive first (m + n)
unfolding items_at
numbers_append zero first n = rw (add-zero, zero-add)
numbers_append (suc m) first n =
    let next : first + suc m ≡ first + 1 + m = omega arith in
    let count : suc m + n ≡ suc (m + n) = omega arith in
    rw (next, count) (ap (λ (l : List ℕ). first ∷ l) (numbers_append m (first + 1) n))

-- those of the faces
pub face_numbers_lem : (ps : List NavPoly) (first : ℕ) → cat (face_numbers first ps) ≡ consecutive first (vertex_count ps)
unfolding cat face_numbers vertex_count items_at
face_numbers_lem [] first = refl
face_numbers_lem (p ∷ ps) first =
    let n = length p.vertices in
    ap (λ (l : List ℕ). consecutive first n ++ l) (face_numbers_lem ps (first + n)) ∙ numbers_append n first (vertex_count ps)

pub from_one : (ps : List NavPoly) → cat (face_numbers 1 ps) ≡ consecutive 1 (vertex_count ps)
from_one ps = face_numbers_lem ps 1
