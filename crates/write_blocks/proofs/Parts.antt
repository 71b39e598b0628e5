-- Items laid out part by part, whatever made them: the items of a part, stored one after the other, and the parts, laid out one after the other.
use Rattle.std.proofs.Common.{◌≡◌, ℕ, zero, suc, ◌+◌, ◌*◌, ◌^◌, ◌<◌, ◌≤◌, min, List, [], ◌∷◌, map, length, take, drop, sym, refl, ap, ◌∙◌, subst, mul-suc, arith, length-drop, length-take-le}
use Rattle.fields.specs.Bytes.{cat}
use Rattle.fields.specs.Put.{put}
use Rattle.fields.proofs.Puts.{length_put, put_nil, put_next}
use Rattle.write_blocks.specs.Layout.{behind, end_of}
use Rattle.write_blocks.specs.Laid.{sum_of, Laid}
use Rattle.write_blocks.specs.Lists.{part_counts, chunks, sizes}
use Rattle.write_blocks.specs.ListRoom.{Wide}
use Rattle.write_blocks.specs.declared.Layout.{Layout}
use Rattle.write_blocks.proofs.Layouts.{laid_none, laid_then, one_end}
use Rattle.write_blocks.proofs.Lists.{length_cat, wide_take, wide_drop, room_turn, end_turn, sum_turn}

-- ---- the items of a part, w bytes each, from `at` on: those that are left, stored from here, make the whole

pub record Filling (w at : ℕ) (items : List (List ℕ)) (out₀ out : List ℕ) (place : ℕ) (left : List (List ℕ)) : Type 0 where
  pub here : place + w * length left ≡ at + w * length items
  pub long : length out ≡ length out₀
  pub rest : put place (cat left) out ≡ put at (cat items) out₀

module _ (w at : ℕ) (items : List (List ℕ)) (out₀ : List ℕ) where
  pub filling : Filling w at items out₀ out₀ at items
  filling = record { here = refl; long = refl; rest = refl }

  module _ (out : List ℕ) (place : ℕ) (left : List (List ℕ)) (g : Filling w at items out₀ out place left) where
    -- the first of them, and the others
    module _ (b : List ℕ) (more : List (List ℕ)) (e : left ≡ b ∷ more) where
      share : w * length left ≡ w + w * length more
      share = rw e (omega (arith, mul-suc w (length more)))

      pub filling_room : place + w ≤ at + w * length items
      filling_room = omega (arith, share, g.here)

      pub filling_turn : length b ≡ w → (out' : List ℕ) → out' ≡ put place b out → Filling w at items out₀ out' (place + w) more
      unfolding cat
      filling_turn wide out' is = record {
        here = omega (arith, share, g.here);
        long = ap length is ∙ length_put place b out ∙ g.long;
        rest = (rw is (put_next w place b (cat more) out wide)) ∙ ap (λ (l : List (List ℕ)). put place (cat l) out) (sym e) ∙ g.rest;
      }

    pub filled : left ≡ [] → out ≡ put at (cat items) out₀
    unfolding cat
    filled e = sym (put_nil place out) ∙ ap (λ (l : List (List ℕ)). put place (cat l) out) (sym e) ∙ g.rest

-- ---- xs in parts of ms items

abbrev pub dealt : {A : Type 0} → List ℕ → List A → List (List A)
dealt [] xs = []
dealt (m ∷ ms) xs = take m xs ∷ dealt ms (drop m xs)

chunks_dealt : {A : Type 0} (k per : ℕ) (xs : List A) → dealt (part_counts k per (length xs)) xs ≡ chunks k per xs
chunks_dealt zero per xs = refl
chunks_dealt {A} (suc k) per xs =
    let m = min per (length xs) in
    ap (λ (bs : List (List A)). take m xs ∷ bs)
    (ap (λ (j : ℕ). dealt (part_counts k per j) (drop m xs)) (sym (length-drop m xs)) ∙ chunks_dealt k per (drop m xs))

-- ---- before a part, where the parts that are left have ms items, which are `left`: whoever lays them out from here on has laid out all, the parts of
-- `counts` items

pub record Parting (w : ℕ) (counts : List ℕ) (items : List (List ℕ)) (l : Layout) (out₀ : List ℕ) (next : Layout) (out : List ℕ) (ms : List ℕ) (left : List (List ℕ)) : Type 0 where
  pub count : sum_of ms ≤ length left
  pub wide : Wide w left
  pub ends : end_of next.at (sizes w ms) ≡ end_of l.at (sizes w counts)
  pub long : length out ≡ length out₀
  pub rest : (r : Layout) (ys : List ℕ) → Laid next (map cat (dealt ms left)) r out ys → Laid l (map cat (dealt counts items)) r out₀ ys

module _ (w : ℕ) (counts : List ℕ) (items : List (List ℕ)) (l : Layout) (out₀ : List ℕ) where
  pub parting : sum_of counts ≤ length items → Wide w items → Parting w counts items l out₀ l out₀ counts items
  parting e h = record { count = e; wide = h; ends = refl; long = refl; rest = λ r ys g. g }

  module _ (next : Layout) (out : List ℕ) (ms : List ℕ) (left : List (List ℕ)) (g : Parting w counts items l out₀ next out ms left) where
    -- the part of m items
    module _ (m : ℕ) (others : List ℕ) (is : ms ≡ m ∷ others) where
      -- it ends below 2^28
      pub parting_room : end_of l.at (sizes w counts) < 2 ^ 28 → behind next.at (w * m) < 2 ^ 28
      parting_room below = omega (arith, g.ends, room_turn ms others m is w next.at)

      pub parting_count : m + sum_of others ≤ length left
      parting_count = omega (arith, g.count, sum_turn ms others m is)

      module _ (part more : List (List ℕ)) (these : take m left ≡ part) (those : drop m left ≡ more) where
        part_wide : length (cat part) ≡ w * m
        part_wide =
            let le : m ≤ length left = omega (arith, parting_count) in
            ap (λ (bs : List (List ℕ)). length (cat bs)) (sym these)
            ∙ length_cat w (take m left) (wide_take w m left g.wide) ∙ ap (λ (j : ℕ). w * j) (length-take-le m left le)

        turned : map cat (dealt ms left) ≡ cat part ∷ map cat (dealt others more)
        turned = rw (is, these, those)

        pub parting_turn : (next' : Layout) (out' : List ℕ) → length out' ≡ length out → Laid next (cat part ∷ []) next' out out'
            → Parting w counts items l out₀ next' out' others more
        parting_turn next' out' same block = record {
          count = omega (arith, parting_count, ap length (sym those), length-drop m left);
          wide = subst (Wide w) those (wide_drop w m left g.wide);
          ends = rw (one_end (w * m) part_wide block) (sym (end_turn ms others m is w next.at) ∙ g.ends);
          long = same ∙ g.long;
          rest = λ r ys f. g.rest r ys (rw turned (laid_then block f));
        }

    pub parted : (k per : ℕ) → counts ≡ part_counts k per (length items) → ms ≡ [] → Laid l (map cat (chunks k per items)) next out₀ out
    parted k per these none =
        let all : dealt counts items ≡ chunks k per items = ap (λ (ns : List ℕ). dealt ns items) these ∙ chunks_dealt k per items in
        rw (← all) (g.rest next out (rw none (laid_none next out)))
