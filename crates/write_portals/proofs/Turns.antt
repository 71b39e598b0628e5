-- Portals and links as they are stored, one record after the other: what is left, stored from here, makes the whole. Assumes nothing.
use Prim.Native.Nat.{ℕ, zero, suc, ◌+◌, ◌*◌, ◌-◌, ◌≤◌, ◌<◌}
use native.Mathlib.Omega.{arith}
use native.Mathlib.Nat.{sub-zero}
use native.Mathlib.Numerals.{add-one}
use mathlib.Core.Path.{◌≡◌, refl, ap, sym, ◌∙◌}
use mathlib.Core.List.{List, [], ◌∷◌, ◌++◌, append_assoc}
use lib.ListN.{length, take, drop, length-append}
use lib.Seq.{drop-cons}
use Rattle.fields.specs.Bytes.{les, cat}
use Rattle.fields.specs.Put.{put}
use Rattle.fields.specs.Rows.{row_bytes}
use Rattle.fields.proofs.Bytes.{length_les}
use Rattle.fields.proofs.Puts.{length_put, put_nil, put_next}
use Rattle.fields.proofs.Rows.{length_rows}
use Rattle.math.specs.declared.vec3.Vec3.{Vec3 as Floats}
use Rattle.strip.specs.Cell.{NavPoly, NavPortal}
use Rattle.strip.specs.Reading.{word, items_at, words_at, poly_at, polygon_of, polygon_at, nav_portal_at}
use Rattle.strip.specs.Rows.{polygons_at, after_polygons, portals_at}
use Rattle.strip.specs.declared.Poly.{Poly}
use Rattle.strip.proofs.Steps.{items_turn, items_done, items_length, polygons_turn, after_polygon, next_inside, parts}
use Rattle.write_pages.specs.Items.{gather, links_of}
use Rattle.write_pages.specs.Pages.{portal_row, portal_items}
use Rattle.write_pages.proofs.Sizes.{length_portals}

-- ---- portals

module _ (bb-min bb-size : Floats) (s : List ℕ) (to at i n : ℕ) where
  -- portal i, whose record is at `at`, and the rest
  pub portal_turn : i < n → (out out' : List ℕ) → out' ≡ put to (row_bytes (portal_row bb-min bb-size (nav_portal_at s at))) out
      → put (to + 28) (cat (portal_items bb-min bb-size (portals_at s (at + 11) (n - (i + 1))))) out' ≡ put to (cat (portal_items bb-min bb-size (portals_at s at (n - i)))) out
  unfolding portal_items cat
  portal_turn h out out' e =
      let row = row_bytes (portal_row bb-min bb-size (nav_portal_at s at)) in
      rw e (put_next 28 to row (cat (portal_items bb-min bb-size (portals_at s (at + 11) (n - (i + 1))))) out (length_rows (portal_row bb-min bb-size (nav_portal_at s at))))
      ∙ ap (λ (ps : List NavPortal). put to (cat (portal_items bb-min bb-size ps)) out) (sym (items_turn (nav_portal_at s) (λ x. x + 11) at i n h))

  -- behind the last one
  pub portals_done : n ≤ i → (out : List ℕ) → out ≡ put to (cat (portal_items bb-min bb-size (portals_at s at (n - i)))) out
  unfolding portal_items cat
  portals_done h out =
      sym (put_nil to out) ∙ ap (λ (ps : List NavPortal). put to (cat (portal_items bb-min bb-size ps)) out) (sym (items_done (nav_portal_at s) (λ x. x + 11) at i n h))

pub portals_long : (bb-min bb-size : Floats) (s : List ℕ) (first n : ℕ) → length (cat (portal_items bb-min bb-size (portals_at s first n))) ≡ 28 * n
portals_long bb-min bb-size s first n = length_portals bb-min bb-size (portals_at s first n) ∙ ap (λ (k : ℕ). 28 * k) (items_length (nav_portal_at s) (λ x. x + 11) n first)

-- ---- links

-- words of a strip are a part of it
pub words_part : (s : List ℕ) (n at : ℕ) → at + n ≤ length s → words_at s at n ≡ take n (drop at s)
unfolding items_at
words_part s zero at h = refl
words_part s (suc n) at h = rw (drop-cons s at 0 (omega arith), words_part s n (at + 1) (omega arith), add-one at)

les_append : (k : ℕ) (xs ys : List ℕ) → les k (xs ++ ys) ≡ les k xs ++ les k ys
unfolding les
les_append k [] ys = refl
les_append k (x ∷ xs) ys = rw (les_append k xs ys, append_assoc)

-- before polygon i, whose record is at `at`
pub record Linking (s : List ℕ) (n start : ℕ) (out₀ out : List ℕ) (to at i : ℕ) : Type 0 where
  pub within : i ≤ n
  pub inside : after_polygons s at (n - i) ≤ length s
  pub there : to + 2 * length (links_of (polygons_at s at (n - i))) ≡ start + 2 * length (links_of (polygons_at s 14 n))
  pub long : length out ≡ length out₀
  pub left : put to (les 2 (links_of (polygons_at s at (n - i)))) out ≡ put start (les 2 (links_of (polygons_at s 14 n))) out₀

module _ (s : List ℕ) (n start : ℕ) (out₀ : List ℕ) where
  pub linking_start : after_polygons s 14 n ≤ length s → Linking s n start out₀ out₀ start 14 0
  linking_start h = record { within = omega arith; inside = rw (sub-zero n) h; there = rw (sub-zero n); long = refl; left = rw (sub-zero n) }

  module _ (out : List ℕ) (to at i : ℕ) (g : Linking s n start out₀ out to at i) where
    module _ (h : i < n) (p : Poly) (e : p ≡ poly_at s at) where
      pub link_next : p.next ≤ length s
      link_next = next_inside s at i n (length s) h g.inside p e

      rest : List ℕ
      rest = links_of (polygons_at s p.next (n - (i + 1)))

      part : List ℕ
      part = take (p.vertex_at - p.link_at) (drop p.link_at s)

      own : (polygon_of s p).links ≡ part
      unfolding polygon_of part
      own =
          let q = parts s at p e in
          let k : p.vertex_at - p.link_at ≡ p.links = omega (arith, q.links_end) in
          rw k (words_part s p.links p.link_at (omega (arith, link_next, q)))

      split : links_of (polygons_at s at (n - i)) ≡ part ++ rest
      unfolding gather rest
      split = ap links_of (polygons_turn s at i n h p e) ∙ ap (λ (l : List ℕ). l ++ rest) own

      own_long : length part ≡ p.links
      unfolding polygon_of
      own_long = ap length (sym own) ∙ items_length (word s) (λ x. x + 1) p.links p.link_at

      pub link_room : to + 2 * p.links ≤ start + 2 * length (links_of (polygons_at s 14 n))
      link_room = omega (arith, g.there, ap length split ∙ length-append part rest, own_long)

      pub linking_turn : (out' : List ℕ) → out' ≡ put to (les 2 (take (p.vertex_at - p.link_at) (drop p.link_at s))) out
          → Linking s n start out₀ out' (to + 2 * p.links) p.next (i + 1)
      unfolding part rest
      linking_turn out' eo =
          let bb-size : length (les 2 part) ≡ 2 * p.links = length_les 2 part ∙ ap (λ (k : ℕ). 2 * k) own_long in
          record {
            within = omega arith;
            inside = omega (arith, after_polygon s at i n h p e, g.inside);
            there = omega (arith, g.there, ap length split ∙ length-append part rest, own_long);
            long = rw eo (length_put to (les 2 part) out) ∙ g.long;
            left = rw eo (put_next (2 * p.links) to (les 2 part) (les 2 rest) out bb-size)
                ∙ ap (λ (l : List ℕ). put to l out) (sym (ap (les 2) split ∙ les_append 2 part rest)) ∙ g.left;
          }

    pub link_in : i < n → at < length s
    link_in h = omega (arith, link_next h (poly_at s at) refl, parts s at (poly_at s at) refl)

    pub linking_done : n ≤ i → out ≡ put start (les 2 (links_of (polygons_at s 14 n))) out₀
    unfolding gather les
    linking_done h =
        sym (put_nil to out) ∙ ap (λ (ps : List NavPoly). put to (les 2 (links_of ps)) out) (sym (items_done (polygon_at s) (λ x. (poly_at s x).next) at i n h)) ∙ g.left
