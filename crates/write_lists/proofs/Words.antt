-- The laws of items that stand in words: what an item stores, their widths, and a turn over the items of a part and over the parts.
use Rattle.std.proofs.Common.{◌≡◌, ℕ, zero, suc, ◌+◌, ◌-◌, ◌*◌, ◌^◌, ◌≤◌, ◌<◌, List, [], ◌∷◌, ◌++◌, length, take, drop, get_or, refl, ap, ◌∙◌, append_assoc, mul-suc, mul-zero, mul-add, arith, length-append, length-drop, length-take-le, drop_at}
use Rattle.std.proofs.lemmas.List.{take-append-le, get_or_append_left, take-append-drop}
use native.Mathlib.Nat.{sub-zero}
use lib.Seq.{drop-drop}
use Rattle.fields.specs.Bytes.{le_bytes, les, cat}
use Rattle.fields.specs.Put.{put}
use Rattle.fields.proofs.Bytes.{length_les, length_bytes}
use Rattle.fields.proofs.Puts.{put_next}
use Rattle.write_blocks.specs.Layout.{behind, end_of}
use Rattle.write_blocks.specs.Laid.{sum_of, Laid}
use Rattle.write_blocks.specs.Lists.{sizes}
use Rattle.write_blocks.specs.ListRoom.{Wide}
use Rattle.write_blocks.specs.declared.Layout.{Layout}
use Rattle.write_blocks.proofs.Lists.{length_cat, sum_turn}
use Rattle.write_blocks.proofs.Parts.{Filling, filling, filling_room, filling_turn, filled, Parting, parting, parting_room, parting_turn}
use Rattle.write_lists.specs.Words.{item_of, items_in}

-- ---- an item

module _ (s w : ℕ) (ws : List ℕ) (fits : s < length ws) where
  taken : length (les 4 (take s ws)) ≡ 4 * s
  taken = rw (length_les, length-take-le s ws (omega arith))

  pub item_stored : (at : ℕ) (out : List ℕ) → put (at + 4 * s) (le_bytes (w - 4 * s) (get_or ws s 0)) (put at (les 4 (take s ws)) out) ≡ put at (item_of s w ws) out
  unfolding item_of
  item_stored at out = put_next (4 * s) at (les 4 (take s ws)) _ out taken

  pub item_wide : 4 * s ≤ w → length (item_of s w ws) ≡ w
  unfolding item_of
  item_wide h = rw (length-append, taken, length_bytes) (omega arith)

-- ---- items

-- so many words stand behind a place
pub lies : (from : ℕ) (words : List ℕ) {k : ℕ} → from + k ≤ length words → k ≤ length (drop from words)
lies from words h = omega (arith, length-drop from words)

pub length_items : (s w n : ℕ) (ws : List ℕ) → length (items_in s w n ws) ≡ n
unfolding items_in
length_items s w zero ws = refl
length_items s w (suc n) ws = ap suc (length_items s w n (drop (s + 1) ws))

pub items_wide : (s w n : ℕ) (ws : List ℕ) → (s + 1) * n ≤ length ws → 4 * s ≤ w → Wide w (items_in s w n ws)
unfolding items_in
items_wide s w zero ws h le = tt
items_wide s w (suc n) ws h le =
    let e = mul-suc (s + 1) n in
    let d = length-drop (s + 1) ws in
    (item_wide s w ws (omega arith) le, items_wide s w n (drop (s + 1) ws) (omega arith) le)

-- ---- parts

items_take : (s w m n : ℕ) (ws : List ℕ) → m ≤ n → take m (items_in s w n ws) ≡ items_in s w m ws
unfolding items_in
items_take s w zero n ws h = refl
items_take s w (suc m) zero ws h = absurd (omega arith)
items_take s w (suc m) (suc n) ws h = ap (λ (l : List (List ℕ)). item_of s w ws ∷ l) (items_take s w m n (drop (s + 1) ws) (omega arith))

items_drop : (s w m n : ℕ) (ws : List ℕ) → m ≤ n → drop m (items_in s w n ws) ≡ items_in s w (n - m) (drop ((s + 1) * m) ws)
unfolding items_in
items_drop s w zero n ws h = rw (mul-zero, sub-zero)
items_drop s w (suc m) zero ws h = absurd (omega arith)
items_drop s w (suc m) (suc n) ws h =
    let e : (s + 1) * suc m ≡ (s + 1) + (s + 1) * m = omega (arith, mul-suc (s + 1) m) in
    let d : suc n - suc m ≡ n - m = omega arith in
    rw (e, d, ← drop-drop ((s + 1) * m) (s + 1) ws) (items_drop s w m n (drop (s + 1) ws) (omega arith))

-- ---- the items of a part, stored one after the other

-- an item's bytes come from its own words
item_front : (s w : ℕ) (ws more : List ℕ) → length ws ≡ s + 1 → item_of s w (ws ++ more) ≡ item_of s w ws
unfolding item_of
item_front s w ws more e =
    let h : s ≤ length ws = omega arith in
    let k : s < length ws = omega arith in
    rw (take-append-le s ws more h, get_or_append_left ws more 0 s k)

-- the first of the items that are left, and the others
items_front : (s w left : ℕ) (item more : List ℕ) → length item ≡ s + 1 → 0 < left
    → items_in s w left (item ++ more) ≡ item_of s w item ∷ items_in s w (left - 1) more
unfolding items_in
items_front s w zero item more own some = absurd (omega arith)
items_front s w (suc left) item more own some =
    let e : suc left - 1 ≡ left = omega arith in
    rw (e, item_front s w item more own, drop_at item more (s + 1) own)

-- so many items are left, in the words `rest`
pub record Storing (words : List ℕ) (from m s w at : ℕ) (out₀ out rest : List ℕ) (place : ℕ) : Type 0 where
  pub left : ℕ
  pub long : length rest ≡ (s + 1) * left
  pub fill : Filling w at (items_in s w m (drop from words)) out₀ out place (items_in s w left (rest ++ drop ((s + 1) * m) (drop from words)))

module _ (words : List ℕ) (from m s w at : ℕ) (out₀ : List ℕ) where
  items : List (List ℕ)
  items = items_in s w m (drop from words)

  behind_them : List ℕ
  behind_them = drop ((s + 1) * m) (drop from words)

  pub storing : from + (s + 1) * m ≤ length words → (rest : List ℕ) → rest ≡ take ((s + 1) * m) (drop from words) → Storing words from m s w at out₀ out₀ rest at
  unfolding items behind_them
  storing room rest e = record {
    left = m;
    long = ap length e ∙ length-take-le ((s + 1) * m) (drop from words) (lies from words room);
    fill = rw (e, take-append-drop) (filling w at items out₀);
  }

  module _ (out rest : List ℕ) (place : ℕ) (g : Storing words from m s w at out₀ out rest place) where
    module _ (item more : List ℕ) (is : rest ≡ item ++ more) (own : length item ≡ s + 1) where
      long : length rest ≡ s + 1 + length more
      long = ap length is ∙ length-append item more ∙ ap (λ (j : ℕ). j + length more) own

      some : (j : ℕ) → length rest ≡ (s + 1) * j → 0 < j
      some zero e = absurd (omega (arith, long, mul-zero (s + 1)))
      some (suc j) e = omega arith

      first : items_in s w g.left (rest ++ behind_them) ≡ item_of s w item ∷ items_in s w (g.left - 1) (more ++ behind_them)
      first = rw (is, append_assoc) (items_front s w g.left item (more ++ behind_them) own (some g.left g.long))

      pub storing_room : place + w ≤ at + w * m
      unfolding items behind_them
      storing_room = rw (length_items s w m (drop from words)) at (filling_room w at items out₀ out place _ g.fill _ _ first)

      pub storing_turn : 4 * s ≤ w → (out' : List ℕ) → out' ≡ put place (item_of s w item) out → Storing words from m s w at out₀ out' more (place + w)
      unfolding items behind_them
      storing_turn le out' e = record {
        left = g.left - 1;
        long =
            let h = some g.left g.long in
            let one : g.left ≡ suc (g.left - 1) = omega arith in
            let k : (s + 1) * g.left ≡ (s + 1) * (g.left - 1) + (s + 1) = ap (λ (j : ℕ). (s + 1) * j) one ∙ mul-suc (s + 1) (g.left - 1) in
            omega (arith, long, g.long);
        fill = filling_turn w at items out₀ out place _ g.fill _ _ first (item_wide s w item (omega arith) le) out' e;
      }

    too_few : (j : ℕ) → length rest ≡ (s + 1) * j → length rest < s + 1 → j ≡ 0
    too_few zero e h = refl
    too_few (suc j) e h = absurd (omega (arith, mul-suc (s + 1) j))

    pub stored : length rest < s + 1 → out ≡ put at (cat (items_in s w m (drop from words))) out₀
    unfolding items behind_them items_in
    stored none =
        let e : g.left ≡ 0 = too_few g.left g.long none in
        filled w at items out₀ out place _ g.fill (ap (λ (j : ℕ). items_in s w j (rest ++ drop ((s + 1) * m) (drop from words))) e)

-- ---- the parts, laid out one after the other

-- the bytes of m items that stand in the words from `from` on
pub part_long : (s w m from : ℕ) (words : List ℕ) → from + (s + 1) * m ≤ length words → 4 * s ≤ w → length (cat (items_in s w m (drop from words))) ≡ w * m
part_long s w m from words room le =
    length_cat w (items_in s w m (drop from words)) (items_wide s w m (drop from words) (lies from words room) le) ∙ ap (λ (j : ℕ). w * j) (length_items s w m (drop from words))

-- the parts that are left have ms items, whose words stand from `from` on
pub record Laying (words : List ℕ) (base s w n : ℕ) (counts : List ℕ) (l : Layout) (out₀ : List ℕ) (next : Layout) (out : List ℕ) (from : ℕ) (ms : List ℕ) : Type 0 where
  pub from_here : from + (s + 1) * sum_of ms ≡ base + (s + 1) * n
  pub parts : Parting w counts (items_in s w n (drop base words)) l out₀ next out ms (items_in s w (sum_of ms) (drop from words))

module _ (words : List ℕ) (base s w n : ℕ) (counts : List ℕ) (l : Layout) (out₀ : List ℕ) (room : base + (s + 1) * n ≤ length words) where
  pub laying : 4 * s ≤ w → sum_of counts ≡ n → Laying words base s w n counts l out₀ l out₀ base counts
  laying few all =
      let items = items_in s w n (drop base words) in
      let p = parting w counts items l out₀ (omega (arith, all, length_items s w n (drop base words))) (items_wide s w n (drop base words) (lies base words room) few) in
      record {
        from_here = rw all;
        parts = rw all p;
      }

  module _ (next : Layout) (out : List ℕ) (from : ℕ) (ms : List ℕ) (g : Laying words base s w n counts l out₀ next out from ms) (m : ℕ) (others : List ℕ) (is : ms ≡ m ∷ others) where
    shared : (s + 1) * sum_of ms ≡ (s + 1) * m + (s + 1) * sum_of others
    shared = rw is (mul-add (s + 1) m (sum_of others))

    -- the part that a turn lays out stands in the words, and ends below 2^28
    pub laying_room : end_of l.at (sizes w counts) < 2 ^ 28 → (from + (s + 1) * m ≤ length words) × (behind next.at (w * m) < 2 ^ 28)
    laying_room below = (omega (arith, shared, g.from_here), parting_room _ _ _ _ _ _ _ _ _ g.parts m others is below)

    pub laying_turn : (next' : Layout) (out' : List ℕ) → length out' ≡ length out → Laid next (cat (items_in s w m (drop from words)) ∷ []) next' out out'
        → Laying words base s w n counts l out₀ next' out' (from + (s + 1) * m) others
    laying_turn next' out' same block =
        let e : sum_of ms ≡ m + sum_of others = sum_turn ms others m is in
        let le : m ≤ sum_of ms = omega arith in
        let d : sum_of ms - m ≡ sum_of others = omega arith in
        let these = items_take s w m (sum_of ms) (drop from words) le in
        let those = items_drop s w m (sum_of ms) (drop from words) le ∙ ap (λ (j : ℕ). items_in s w j (drop ((s + 1) * m) (drop from words))) d
        ∙ ap (items_in s w (sum_of others)) (drop-drop ((s + 1) * m) from words) in
        record {
          from_here = omega (arith, shared, g.from_here);
          parts = parting_turn _ _ _ _ _ _ _ _ _ g.parts m others is _ _ these those next' out' same block;
        }
