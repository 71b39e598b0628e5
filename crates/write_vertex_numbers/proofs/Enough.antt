-- The three ways of `number_all`: too little work, no triple, and the numbering itself.
use Prim.Native.Nat.{ℕ, ◌+◌, ◌*◌, ◌/◌, ◌≤◌, ◌<◌, min}
use native.Mathlib.Omega.{arith}
use native.Mathlib.Nat.{min-le_left}
use mathlib.Core.Path.{◌≡◌, refl, ap, sym, ◌∙◌}
use mathlib.Core.List.{List, []}
use lib.ListN.{length}
use borrow.Author.Tests.{le-leb, lt-leb}
use Rattle.std.specs.Prelude.{Option, Some, None, Result, Ok, Err}
use Rattle.strip.specs.Reasons.{reason_number}
use Rattle.strip.specs.Outcome.{Paper, refusal, paper}
use Rattle.strip.specs.declared.Reason.{Reason}
use Rattle.strip.specs.declared.Reason.TheVariants.{TooLittleWork}
use Rattle.strip.specs.declared.Refusal.{Refusal}
use Rattle.distinct.specs.Distinct.{distinct_from}
use Rattle.distinct.specs.Numbers.{numbers_from, excess_from}
use Rattle.distinct.proofs.Left.{drop_more}
use Rattle.write_vertices.specs.Table.{met}
use Rattle.write_vertex_numbers.specs.Numbers.{all_of, InWork, NumberedAll}

pub too_short : (xs w : List ℕ) → length w / 4 < length xs → NumberedAll xs w w (Err (record { reason = TooLittleWork; place = 0 }))
too_short xs w h = record {
  answer = rw (lt-leb (length xs) (length w / 4) h);
  numbers = λ n e. let z : ◌≡◌ {A = ℕ} 0 1 = cc in absurd (omega arith);
  vertices = λ n e. let z : ◌≡◌ {A = ℕ} 0 1 = cc in absurd (omega arith);
  rest = refl;
  short = λ _ _ _. refl;
}

pub no_triple : (w : List ℕ) → NumberedAll [] w w (Ok 0)
unfolding distinct_from numbers_from excess_from met
no_triple w = record {
  answer = rw (le-leb 0 (length w / 4) (omega arith));
  numbers = λ n e. refl;
  vertices = λ n e. let none : 0 ≡ n = cc in rw (← none);
  rest = refl;
  short = λ _ _ _. refl;
}

-- a numbering's answer is never 1
not_short : (e : Option ℕ) (n place : ℕ) → all_of e n ≡ refusal 1 place → ⊥
not_short None n place q = let z : ◌≡◌ {A = ℕ} 0 1 = cc in omega arith
not_short (Some i) n place q = let z : ◌≡◌ {A = ℕ} 14 1 = cc in omega arith

pub enough : (xs w w' : List ℕ) (m b : ℕ) (r : Result ℕ Refusal) → length xs ≡ m → m ≤ length w / 4 → b ≡ min m 65536 → InWork xs m b w w' r → NumberedAll xs w w' r
enough xs w w' m b r lx h eb a =
    let few : m + (b + 2 * m) ≤ 4 * m = omega (arith, min-le_left m 65536) in
    record {
      answer = a.answer ∙ rw (lx, le-leb m (length w / 4) h);
      numbers = λ n e. rw lx (a.numbered n e).1;
      vertices = λ n e. rw (lx, ← eb) (a.numbered n e).0;
      rest = rw lx (drop_more (m + (b + 2 * m)) (4 * m) few w' w a.rest);
      short = λ q e few_work.
          let why : ◌≡◌ {A = Paper ℕ} (refusal (reason_number q.reason) q.place) (refusal 1 q.place) = ap (λ (k : Reason). refusal (reason_number k) q.place) few_work in
          absurd (not_short (excess_from 65536 [] 0 xs) (length (distinct_from [] xs)) q.place (sym a.answer ∙ ap paper e ∙ why));
    }
