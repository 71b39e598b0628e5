-- What reading an input comes to, and its line: by its length, and by what the reader answers and leaves.
use mathlib.Core.Path.{◌≡◌, ap, ◌∙◌}
use mathlib.Core.Bool.{Bool, true, false, cond}
use mathlib.Core.List.{List, []}
use Prim.Native.Nat.{ℕ, ◌≤◌, ◌<◌}
use native.Mathlib.Omega.{arith}
use lib.Dec.{leb}
use lib.ListN.{length, drop, get_or, get_or-append, length-append}
use borrow.Author.Tests.{le-leb, lt-leb}
use Rattle.fields.specs.Put.{put}
use Rattle.strip.specs.Cell.{Cell, encode}
use Rattle.strip.proofs.Plain.{length_encode}
use Rattle.strip.specs.Outcome.{Outcome, refused, done, refusal, values, shown, left}
use Rattle.read_decide.specs.declared.Parsed.{Parsed}
use Rattle.read_decide.specs.Reading.{Reading}
use Rattle.read_decide.specs.Reading as Reading
use Rattle.read_decide.specs.Answer.{counts_of}
use Rattle.ynv_read.specs.Parse.{fitted, parse_outcome}
use Rattle.decimal.specs.Stored.{Stored}
use Rattle.cellsum_line.specs.Line.{cell_outcome, accepted_text, refused_text, cell_text}

pub short_input : (input : List ℕ) (n : ℕ) → length input ≤ 65536 → cell_outcome input n ≡ parse_outcome input [] n
unfolding cell_outcome
short_input input n h = rw (le-leb (length input) 65536 h)

pub long_input : (input : List ℕ) (n : ℕ) → 65536 < length input → cell_outcome input n ≡ refused 4 0
unfolding cell_outcome
long_input input n h = rw (lt-leb (length input) 65536 h)

-- ---- a strip that is made has the 14 words of the cell's record

abbrev Long : Outcome Parsed → Type 0
Long (refused number place) = Unit
Long (done p words) = 14 ≤ length words

long_strip : (c : Cell) → 14 ≤ length (encode c)
long_strip c = omega (arith, length_encode c)

long_fitted : (n : ℕ) (r : Reading) → Long (fitted n r)
long_fitted n (Reading.made c sectors) = by (leb (length (encode c)) n)
  where
    by : (b : Bool) → Long (cond b (done (counts_of c sectors) (encode c)) (refused 2 0))
    by true = long_strip c
    by false = tt
long_fitted n (Reading.refused number place) = tt

long_outcome : (system graphics : List ℕ) (n : ℕ) → Long (parse_outcome system graphics n)
unfolding parse_outcome
long_outcome system graphics n = long_fitted n (Reading.read_cell system graphics)

-- ---- the line of an answer

accepted : (o : Outcome Parsed) → Long o → (old : List ℕ) (p : Parsed) → values p ≡ shown o → (14 ≤ length (left o old)) × (accepted_text (get_or (left o old) 2 0) p ≡ cell_text o)
accepted (refused number place) l old p e = let z : ◌≡◌ {A = ℕ} 0 1 = cc in absurd (omega arith)
accepted (done q words) l old p e =
    let same : p ≡ q = cc in
    (omega (arith, length-append words (drop (length words) old)), rw (same, get_or-append words (drop (length words) old) 0 2 (omega arith)))

-- where a cell is answered, the strip that is left has its record, and word 2 of it is the line's area id
pub accepted_line : (system graphics old : List ℕ) (p : Parsed) → values p ≡ shown (parse_outcome system graphics (length old)) →
    (14 ≤ length (left (parse_outcome system graphics (length old)) old))
    × (accepted_text (get_or (left (parse_outcome system graphics (length old)) old) 2 0) p ≡ cell_text (parse_outcome system graphics (length old)))
accepted_line system graphics old p e = accepted (parse_outcome system graphics (length old)) (long_outcome system graphics (length old)) old p e

pub refused_line : (o : Outcome Parsed) (number place : ℕ) → refusal number place ≡ shown o → refused_text number place ≡ cell_text o
refused_line (refused n p) number place e = let a : number ≡ n = cc in let b : place ≡ p = cc in rw (a, b)
refused_line (done q words) number place e = let z : ◌≡◌ {A = ℕ} 0 1 = cc in absurd (omega arith)

-- the promise, from what was decided and the line that is stored
pub promised : {given o : Outcome Parsed} {text old new : List ℕ} {r : ℕ} (strip strip' : List ℕ) → given ≡ o → text ≡ cell_text o → Stored 0 text old new r → strip' ≡ left o strip →
    (r ≡ length (cell_text given)) × ((new ≡ put 0 (cell_text given) old) × (strip' ≡ left given strip))
promised {given} {o} {text} {old} {new} {r} strip strip' d e s l =
    let count : r ≡ length text = omega (arith, s.place) in
    rw d (count ∙ ap length e, (s.bytes ∙ ap (λ (t : List ℕ). put 0 t old) e, l))
