-- Laws of the words of a polygon's front, vertices and indices.
use Prim.Native.Nat.{ℕ, suc, ◌+◌, ◌-◌, ◌*◌, ◌/◌, ◌%◌, ◌≤◌, ◌<◌}
use native.Mathlib.Nat.{add-zero, sub-zero}
use native.Mathlib.Numerals.{add-one}
use native.Mathlib.Omega.{arith}
use mathlib.Core.Path.{◌≡◌, refl, sym, ap, ◌∙◌}
use mathlib.Core.Bool.{Bool, true, false, cond, ◌&&◌}
use mathlib.Core.List.{List, [], ◌∷◌}
use lib.Dec.{leb, ltb}
use lib.ListN.{length, take, drop, get_or, set, length-take, length-drop, get_or-map, length-map, drop_of_length-le}
use lib.Seq.{drop-cons, get_or-take, get_or-drop}
use borrow.Author.Tests.{leb-true, ltb-true, le-leb, lt-leb, lt-ltb, le-ltb}
use Rattle.fields.specs.Bytes.{le_at, cut}
use Rattle.fields.specs.Put.{put}
use Rattle.fields.specs.Rows.{pack}
use Rattle.fields.proofs.Bytes.{past}
use Rattle.fields.proofs.Puts.{put_next, put_cons, put_nil}
use Rattle.resource.specs.Section.{resolved}
use Rattle.strip.specs.Cell.{Vec3, vec_words}
use Rattle.read_grammar.specs.Polygons.{link_run, links_at, count_of}
use Rattle.read_lists.specs.Lists.{item}
use Rattle.read_lists.proofs.Lists.{item_field}
use Rattle.fields.proofs.Cuts.{cut_length, cut_left}
use Rattle.read_lists.proofs.Cuts.{cut_item}
use Rattle.read_polygon_words.specs.Words.{link_start, links_named, link_count, all_below}
use Rattle.read_polygon_words.specs.Front.{links_of, front_of}

-- ---- the grammar's words

-- the links at an address are the link table of its part
pub links_are : (system graphics : List ℕ) (va n : ℕ) → links_at system graphics va n ≡ links_of (resolved system graphics va (2 * n))
unfolding links_at links_of
links_are system graphics va n = refl

pub vec_three : (v : Vec3) → length (vec_words v) ≡ 3
unfolding vec_words
vec_three v = refl

-- ---- indices

-- an index read from its own two bytes
pub own_bytes : (run : List ℕ) (k : ℕ) {x : ℕ} → x ≡ le_at 2 (take (2 * k + 2 - 2 * k) (drop (2 * k) run)) 0 → x ≡ le_at 2 run (2 * k)
unfolding item
own_bytes run k e =
    let two : 2 * k + 2 - 2 * k ≡ 2 = omega arith in
    rw two at e ∙ item_field 2 run k 2 0 (omega arith) ∙ ap (le_at 2 run) (add-zero (2 * k))

module _ (run : List ℕ) (n limit : ℕ) where
  pub below_begin : all_below limit (cut 2 (n - 0) (drop (2 * 0) run)) ≡ all_below limit (cut 2 n run)
  below_begin = rw (sub-zero n)

  module _ (k : ℕ) (l : k < n) {x : ℕ} (ex : x ≡ le_at 2 run (2 * k)) where
    index_read : le_at 2 (take 2 (drop (2 * k) run)) 0 ≡ x
    unfolding item
    index_read = item_field 2 run k 2 0 (omega arith) ∙ rw (add-zero (2 * k), ex)

    pub below_more : x < limit → all_below limit (cut 2 (n - (k + 1)) (drop (2 * (k + 1)) run)) ≡ all_below limit (cut 2 (n - k) (drop (2 * k) run))
    unfolding all_below
    below_more h = rw (cut_left 2 n run k l, index_read, lt-ltb x limit h)

    -- an index of a run that passed is below the limit
    pub below_first : all_below limit (cut 2 (n - k) (drop (2 * k) run)) ≡ true → (x < limit) × (all_below limit (cut 2 (n - (k + 1)) (drop (2 * (k + 1)) run)) ≡ true)
    unfolding all_below
    below_first h = by (ltb x limit) refl (rw (cut_left 2 n run k l, index_read) at h)
      where
        by : (t : Bool) → ltb x limit ≡ t → (t && all_below limit (cut 2 (n - (k + 1)) (drop (2 * (k + 1)) run))) ≡ true
            → (x < limit) × (all_below limit (cut 2 (n - (k + 1)) (drop (2 * (k + 1)) run)) ≡ true)
        by true e h = (ltb-true x limit e, h)
        by false e h = let z : ◌≡◌ {A = Bool} false true = h in let y : ◌≡◌ {A = ℕ} 0 1 = cc in absurd (omega arith)

    pub below_not : limit ≤ x → false ≡ all_below limit (cut 2 (n - k) (drop (2 * k) run))
    unfolding all_below
    below_not h = rw (cut_left 2 n run k l, index_read, le-ltb x limit h)

  pub below_end : (k : ℕ) → n ≤ k → true ≡ all_below limit (cut 2 (n - k) (drop (2 * k) run))
  unfolding all_below cut
  below_end k h = let e : n - k ≡ 0 = omega arith in rw e

-- ---- links

module _ (rec : List ℕ) (n : ℕ) {w : ℕ} (ew : w ≡ le_at 4 rec 0x2C) where
  pub links_all : w / 32768 % 131072 + w / 4096 % 8 ≤ n → w / 4096 % 8 ≡ link_count n rec
  unfolding link_count
  links_all h = rw (← ew, le-leb (w / 32768 % 131072 + w / 4096 % 8) n h)

  pub links_none : n < w / 32768 % 131072 + w / 4096 % 8 → 0 ≡ link_count n rec
  unfolding link_count
  links_none h = rw (← ew, lt-leb (w / 32768 % 131072 + w / 4096 % 8) n h)

pub length_links : (bytes : List ℕ) → length (links_of bytes) ≡ length bytes / 2
unfolding links_of
length_links bytes = length-map (cut 2 (length bytes / 2) bytes) (λ b. le_at 2 b 0) ∙ cut_length 2 (length bytes / 2) bytes

link_of : (bytes : List ℕ) (i : ℕ) → i < length bytes / 2 → get_or (links_of bytes) i 0 ≡ le_at 2 bytes (2 * i)
unfolding links_of
link_of bytes i h =
    ap (get_or (links_of bytes) i) (sym (past 2 [] 0 (omega arith))) ∙ get_or-map (λ b. le_at 2 b 0) (cut 2 (length bytes / 2) bytes) i []
    ∙ ap (λ (b : List ℕ). le_at 2 b 0) (cut_item 2 (length bytes / 2) bytes i h) ∙ item_field 2 bytes i 2 0 (omega arith) ∙ rw (add-zero (2 * i))

-- a polygon has as many links as its run
module _ (table rec : List ℕ) where
  abbrev links : List ℕ
  links = link_run table (link_start rec) (links_named rec)

  pub length_run : length links ≡ link_count (length table) rec
  unfolding link_run link_count
  length_run = by (leb (link_start rec + links_named rec) (length table)) refl
    where
      by : (b : Bool) → leb (link_start rec + links_named rec) (length table) ≡ b → length (cond b (take (links_named rec) (drop (link_start rec) table)) []) ≡ cond b (links_named rec) 0
      by true e = let l = leb-true (link_start rec + links_named rec) (length table) e in rw (length-take, length-drop) (omega arith)
      by false e = refl

  run_at : (k : ℕ) → k < length links → (get_or links k 0 ≡ get_or table (link_start rec + k) 0) × (link_start rec + k < length table)
  unfolding link_run
  run_at k = by (leb (link_start rec + links_named rec) (length table)) refl
    where
      by : (b : Bool) → leb (link_start rec + links_named rec) (length table) ≡ b → k < length (cond b (take (links_named rec) (drop (link_start rec) table)) [])
          → (get_or (cond b (take (links_named rec) (drop (link_start rec) table)) []) k 0 ≡ get_or table (link_start rec + k) 0) × (link_start rec + k < length table)
      by true e h =
          let l = leb-true (link_start rec + links_named rec) (length table) e in
          let m : k < links_named rec = omega (arith, length-take (links_named rec) (drop (link_start rec) table)) in
          (get_or-take (links_named rec) (drop (link_start rec) table) k 0 m ∙ get_or-drop (link_start rec) table k 0, omega arith)
      by false e h = absurd (omega arith)

module _ (rec bytes : List ℕ) where
  -- one link more
  pub link_step : (k at : ℕ) (out : List ℕ) {w v : ℕ} → w ≡ le_at 4 rec 0x2C → v ≡ le_at 2 bytes (2 * (w / 32768 % 131072 + k)) → k < link_count (length (links_of bytes)) rec
      → put (at + (k + 1)) (drop (k + 1) (links (links_of bytes) rec)) (set out (at + k) v) ≡ put (at + k) (drop k (links (links_of bytes) rec)) out
  link_step k at out {w} {v} ew ev l =
      let ls : List ℕ = links (links_of bytes) rec in
      let low : k < length ls = rw (length_run (links_of bytes) rec) l in
      let a = run_at (links_of bytes) rec k low in
      let inside : link_start rec + k < length bytes / 2 = rw (length_links bytes) at a.1 in
      let is : get_or ls k 0 ≡ v = a.0 ∙ link_of bytes (link_start rec + k) inside ∙ rw (← ew, ev) in
      let e : at + (k + 1) ≡ suc (at + k) = omega arith in
      rw (drop-cons ls k 0 low, is, put_cons (at + k) v (drop (suc k) ls) out, e, add-one k)

  -- and no link left
  pub links_end : (k at : ℕ) (out : List ℕ) → link_count (length (links_of bytes)) rec ≤ k → put (at + k) (drop k (links (links_of bytes) rec)) out ≡ out
  links_end k at out h =
      let long : length (links (links_of bytes) rec) ≤ k = rw (length_run (links_of bytes) rec) h in
      let e : drop k (links (links_of bytes) rec) ≡ [] = drop_of_length-le (links (links_of bytes) rec) long in
      rw (e, put_nil)

  pub front_put : {n count : ℕ} → n ≡ link_count (length (links_of bytes)) rec → n ≤ 7 → count ≡ count_of rec → (at : ℕ) (out : List ℕ)
      → put (at + 4) (links (links_of bytes) rec) (put at ((0x2000_0000 + (n * 0x100_0000 + (count * 0x1000 + count))) ∷ le_at 2 rec 0 ∷ le_at 4 rec 0x24 ∷ le_at 4 rec 0x28 ∷ []) out)
      ≡ put at (front_of (links_of bytes) rec) out
  unfolding front_of pack
  front_put {n} {count} en small ec at out =
      let low : count < 2048 = omega arith in
      let word : 0x2000_0000 + (n * 0x100_0000 + (count * 0x1000 + count)) ≡ count % 4096 + 4096 * (count % 4096 + 4096 * (n % 16 + 16 * (2 % 16 + 16 * 0))) = omega arith in
      rw (← en, ← ec, ← word)
      (put_next 4 at ((0x2000_0000 + (n * 0x100_0000 + (count * 0x1000 + count))) ∷ le_at 2 rec 0 ∷ le_at 4 rec 0x24 ∷ le_at 4 rec 0x28 ∷ []) (links (links_of bytes) rec) out refl)
