-- Laws of the words of a polygon's edges: as many to a half and to an edge as the strip has, and what they are made of.
use Prim.Native.Nat.{ℕ, ◌+◌, ◌*◌, ◌/◌, ◌%◌, ◌≤◌, ◌<◌}
use native.Mathlib.Omega.{arith}
use mathlib.Core.Path.{◌≡◌, refl, ◌∙◌}
use mathlib.Core.List.{List, [], ◌∷◌}
use lib.ListN.{length}
use borrow.Author.Tests.{lt-ltb, le-ltb}
use Rattle.fields.specs.Bytes.{le_at}
use Rattle.fields.specs.Put.{put}
use Rattle.fields.proofs.Puts.{put_next}
use Rattle.areas.specs.declared.edge.RawEnd.{RawEnd}
use Rattle.areas.specs.EdgeHalf.{adjacent_none}
use Rattle.areas.specs.Decoded.{decoded_end}
use Rattle.strip.specs.Cell.{NavEdgeEnd, NavEdge, half_words, edge_words}
use Rattle.read_grammar.specs.Polygons.{half_of, edge_of}
use Rattle.read_grammar.specs.Derives.{area_of}

half_three : (h : NavEdgeEnd) → length (half_words h) ≡ 3
unfolding half_words
half_three h = refl

pub edge_six : (e : NavEdge) → length (edge_words e) ≡ 6
unfolding edge_words half_words
edge_six e = refl

pub area_in : (header : List ℕ) {i n r : ℕ} → n ≡ le_at 4 header 0x94 → i < n → r ≡ le_at 4 header (0x98 + 4 * i) → r ≡ area_of header i
unfolding area_of
area_in header {i} {n} en l er = er ∙ rw (← en, lt-ltb i n l)

pub area_none : (header : List ℕ) {i n : ℕ} → n ≡ le_at 4 header 0x94 → n ≤ i → adjacent_none ≡ area_of header i
unfolding area_of
area_none header {i} {n} en l = rw (← en, le-ltb i n l)

pub half_words_lem : (area : ℕ → ℕ) (raw : ℕ) {e : RawEnd} {a : ℕ} → e ≡ decoded_end raw → a ≡ area e.index
    → (a ∷ e.poly ∷ (e.unk3 % 2048 + 65536 * (e.unk2 % 4)) ∷ []) ≡ half_words (half_of area raw)
unfolding half_words half_of
half_words_lem area raw ee ea =
    let m : raw / 2097152 % 2048 % 2048 ≡ raw / 2097152 % 2048 = omega arith in
    let n : raw / 524288 % 4 % 4 ≡ raw / 524288 % 4 = omega arith in
    rw (ea, ee, m, n)

pub edge_put : (area : ℕ → ℕ) (b : List ℕ) (at : ℕ) (out : List ℕ) → put (at + 3) (half_words (half_of area (le_at 4 b 4))) (put at (half_words (half_of area (le_at 4 b 0))) out) ≡ put at (edge_words (edge_of area b)) out
unfolding edge_words edge_of
edge_put area b at out = put_next 3 at (half_words (half_of area (le_at 4 b 0))) (half_words (half_of area (le_at 4 b 4))) out (half_three (half_of area (le_at 4 b 0)))
