-- The words that runs stand for, one after the other.
use Prim.Native.Nat.{ℕ, zero, suc, ◌+◌, ◌-◌, ◌*◌, ◌%◌, ◌^◌, ◌≤◌, ◌<◌, min}
use native.Mathlib.Omega.{arith}
use native.Mathlib.Nat.{zero-add}
use native.Mathlib.Numerals.{add-one}
use mathlib.Core.Path.{◌≡◌, refl, ap, sym, ◌∙◌}
use mathlib.Core.List.{List, [], ◌∷◌, ◌++◌}
use lib.ListN.{length, set, length-append, length-take, length-drop, take, drop}
use borrow.Author.Tests.{eq-eqb, ne_eqb, lt-ltb, le-ltb}
use Rattle.fields.specs.Bytes.{le_at}
use Rattle.fields.specs.Put.{put}
use Rattle.fields.proofs.Holds.{put_held, held_taken}
use Rattle.fields.proofs.Puts.{length_put, put_nil, put_one, put_next}
use Rattle.write_runs.specs.Runs.{which, before, run_word, run_words, run_end, run_count, run_of, RunAt, Runs, none, more, Unrolled}
use Rattle.write_runs.specs.declared.Run.{Run}

module _ (ws : List ℕ) (grows k : ℕ) where
  pub word_grown : (w : ℕ) → which ws k ≡ grows → w ≡ le_at 4 ws (4 * which ws k) → {n : ℕ} → n ≡ (w + 256 * before ws k) % 4294967296 → n ≡ run_word ws grows k
  unfolding run_word
  word_grown w h e is = rw (eq-eqb (which ws k) grows h) (is ∙ ap (λ (x : ℕ). (x + 256 * before ws k) % 4294967296) e)

  pub word_given : (w : ℕ) → (which ws k ≡ grows → ⊥) → w ≡ le_at 4 ws (4 * which ws k) → w ≡ run_word ws grows k
  unfolding run_word
  word_given w h e = rw (ne_eqb (which ws k) grows h) e

module _ (ws : List ℕ) (grows : ℕ) where
  pub length_run : (n : ℕ) → length (run_words ws grows n) ≡ n
  unfolding run_words
  length_run zero = refl
  length_run (suc n) = length-append (run_words ws grows n) (run_word ws grows n ∷ []) ∙ rw (length_run n) (add-one n)

  module _ (from : ℕ) (xs : List ℕ) where
    pub run_start : xs ≡ put from (run_words ws grows 0) xs
    unfolding run_words
    run_start = sym (put_nil from xs)

    pub run_turn : (k r : ℕ) (w : List ℕ) → w ≡ put from (run_words ws grows k) xs → r ≡ run_word ws grows k → set w (from + k) r ≡ put from (run_words ws grows (k + 1)) xs
    unfolding run_words
    run_turn k r w e q =
        rw (e, q, add-one k)
        (sym (put_one (from + k) (run_word ws grows k) (put from (run_words ws grows k) xs))
        ∙ put_next k from (run_words ws grows k) (run_word ws grows k ∷ []) xs (length_run k))

    pub run_done : (k n : ℕ) (w : List ℕ) → k ≤ n → n ≤ k → w ≡ put from (run_words ws grows k) xs → w ≡ put from (run_words ws grows n) xs
    run_done k n w h g e = let all : n ≡ k = omega arith in rw all e

module _ (rs : List ℕ) (at room e : ℕ) (q : e ≡ run_end rs at) (h : at + 12 ≤ e) (g : e ≤ length rs) where
  pub run_without : e - (at + 12) < 4 → RunAt rs at room (record { words = at + 12; end = e; count = 0 })
  unfolding run_count
  run_without few = record {
    words = refl;
    end = q;
    count = rw (← q, lt-ltb (e - (at + 12)) 4 few);
    goes_on = h;
    inside = g;
    fits = omega arith;
    small = omega arith;
    given = λ z. absurd (omega arith);
  }

  pub run_with : (n : ℕ) → 4 ≤ e - (at + 12) → n < 2 ^ 32 → n ≡ min (le_at 4 rs at) room → RunAt rs at room (record { words = at + 12; end = e; count = n })
  unfolding run_count
  run_with n some few en = record {
    words = refl;
    end = q;
    count = rw (← q, le-ltb (e - (at + 12)) 4 some) en;
    goes_on = h;
    inside = g;
    fits = omega (arith, en);
    small = few;
    given = λ z. some;
  }

-- a run that is put behind what is made
module _ (rs : List ℕ) (at room : ℕ) (r : Run) (a : RunAt rs at room r) where
  pub length_of : length (run_of rs at room) ≡ r.count
  unfolding run_of
  length_of = length_run _ _ (run_count rs at room) ∙ sym a.count

  pub given_bytes : 0 < r.count → 4 ≤ length (take (r.end - r.words) (drop r.words rs))
  given_bytes h = simp (length-take, length-drop) (omega (arith, a.given h, a.words, a.inside, a.goes_on))

  module _ (made : ℕ) (xs : List ℕ) where
    pub run_put : (g : ℕ) (w : List ℕ) → g ≡ le_at 4 rs (at + 8) → w ≡ put made (run_words (take (r.end - r.words) (drop r.words rs)) g r.count) xs → w ≡ put made (run_of rs at room) xs
    unfolding run_of
    run_put g w e q = rw (e, a.words, a.end, a.count) at q

    pub run_empty : (0 < r.count → ⊥) → xs ≡ put made (run_of rs at room) xs
    unfolding run_of run_words
    run_empty h = let none : run_count rs at room ≡ 0 = omega (arith, h, a.count) in rw none (sym (put_nil made xs))

-- before the run at a place: the runs so far stand for the words that are stored at the front of xs
pub record Making (rs xs w : List ℕ) (at made : ℕ) : Type 0 where
  pub words : List ℕ
  pub runs : Runs rs (length xs) at words
  pub count : length words ≡ made
  pub within : at ≤ length rs
  pub fits : made ≤ length xs
  pub stored : w ≡ put 0 words xs

module _ (rs xs : List ℕ) where
  pub making_start : Making rs xs xs 0 0
  making_start = record { words = []; runs = none; count = refl; within = omega arith; fits = omega arith; stored = sym (put_nil 0 xs) }

  module _ (w : List ℕ) (at made : ℕ) (g : Making rs xs w at made) where
    pub making_long : length w ≡ length xs
    making_long = ap (λ (l : List ℕ). length l) g.stored ∙ length_put 0 g.words xs

    pub making_turn : at + 12 ≤ length rs → (r : Run) → RunAt rs at (length w - made) r → (w' : List ℕ) → w' ≡ put made (run_of rs at (length w - made)) w → Making rs xs w' r.end (made + r.count)
    making_turn h r a w' q =
        let room : length w - made ≡ length xs - length g.words = ap (λ (n : ℕ). n - made) making_long ∙ ap (λ (n : ℕ). length xs - n) (sym g.count) in
        let bs = run_of rs at (length xs - length g.words) in
        let long : length bs ≡ r.count = ap (λ (n : ℕ). length (run_of rs at n)) (sym room) ∙ length_of rs at (length w - made) r a in
        record {
          words = g.words ++ bs;
          runs = rw a.end (more at g.words g.runs h);
          count = length-append g.words bs ∙ rw (long, g.count);
          within = a.inside;
          fits = omega (arith, a.fits, making_long, g.fits);
          stored = q ∙ ap (λ (n : ℕ). put made (run_of rs at n) w) room ∙ ap (λ (l : List ℕ). put made bs l) g.stored ∙ ap (λ (n : ℕ). put n bs (put 0 g.words xs)) (sym (zero-add made)) ∙ put_next made 0 g.words bs xs g.count;
        }

    pub making_done : length rs < at + 12 → Unrolled rs (length xs) (take made w)
    making_done h =
        let room : 0 + length g.words ≤ length xs = omega (arith, g.count, g.fits) in
        let front : take made w ≡ g.words = ap (λ (n : ℕ). take n w) (sym g.count) ∙ ap (λ (l : List ℕ). take (length g.words) l) g.stored ∙ held_taken (put_held 0 g.words xs room) in
        record { end = at; runs = rw front g.runs; all = h }
