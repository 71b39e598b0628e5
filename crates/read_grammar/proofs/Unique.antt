-- What the sections derive, they derive alone: parts, tables, lists, trees, polygons, cells and strips are each one. Assumes nothing.
use mathlib.Core.Path.{◌≡◌, refl, sym, ap, ◌∙◌}
use mathlib.Core.List.{List, ◌++◌, map}
use Prim.Native.Nat.{ℕ, suc, ◌*◌, ◌<◌}
use native.Mathlib.Nat.{mul-zero}
use native.Mathlib.Omega.{arith}
use Rattle.fields.specs.Bytes.{le_at, cut}
use Rattle.strip.specs.Cell.{Vec3, NavEdge, NavPoly, NavPortal, NavPoint, Head, Cell, encode}
use Rattle.read_grammar.specs.Parts.{Good, Array}
use Rattle.read_grammar.specs.Trees.{Data, no_data, data_at, Trees}
use Rattle.read_grammar.specs.Lists.{Table, no_table, table, Parts, no_part, skipped, part, ListAt, Items, empty, some}
use Rattle.read_grammar.specs.Polygons.{PolygonOf, Each, none, more}
use Rattle.read_grammar.specs.Derives.{back_of, head_of, portal_of, point_of, Makes, Derives}

module _ (system graphics : List ℕ) where
  pub good_one : {va n : ℕ} {b c : List ℕ} → Good system graphics va n b → Good system graphics va n c → b ≡ c
  good_one g h = sym g.there ∙ h.there

  pub array_one : {w va n : ℕ} {xs ys : List (List ℕ)} → Array system graphics w va n xs → Array system graphics w va n ys → xs ≡ ys
  array_one Array.none Array.none = refl
  array_one {w} (Array.some {n = n} g) (Array.some h) = ap (cut w (suc n)) (good_one g h)

  -- ---- lists

  pub table_one : {va k : ℕ} {t u : List ℕ} → Table system graphics va k t → Table system graphics va k u → t ≡ u
  table_one no_table no_table = refl
  table_one (table g) (table h) = good_one g h

  -- a part with count 0 isn't good
  count_some : (w n : ℕ) → n ≡ 0 → 0 < w * n → ⊥
  count_some w n e h = let z : 0 < w * 0 = rw e at h in omega (arith, mul-zero w)

  pub parts_one : {w : ℕ} {t : List ℕ} {at k : ℕ} {bs cs : List ℕ} → Parts system graphics w t at k bs → Parts system graphics w t at k cs → bs ≡ cs
  parts_one no_part no_part = refl
  parts_one (skipped e p) (skipped f q) = parts_one p q
  parts_one {w} (skipped e p) (part g q) = absurd (count_some w _ e g.some)
  parts_one {w} (part g p) (skipped e q) = absurd (count_some w _ e g.some)
  parts_one (part {b = b} g p) (part {bs = cs} h q) = ap (λ (l : List ℕ). b ++ l) (parts_one p q) ∙ ap (λ (l : List ℕ). l ++ cs) (good_one g h)

  pub list_one : {va w : ℕ} {xs ys : List (List ℕ)} → ListAt system graphics va w xs → ListAt system graphics va w ys → xs ≡ ys
  list_one {va} {w} l m =
      let h : l.header ≡ m.header = good_one l.header_good m.header_good in
      let t : l.parts ≡ m.parts = table_one l.parts_good (rw (← h) at m.parts_good) in
      let b : l.bytes ≡ m.bytes = parts_one l.items_good (rw (← h, ← t) at m.items_good) in
      l.are ∙ ap (λ (x : List ℕ). cut w (le_at 4 x 8) l.bytes) h ∙ ap (cut w (le_at 4 m.header 8)) b ∙ sym m.are

  pub items_one : {va w : ℕ} {xs ys : List (List ℕ)} → Items system graphics w va xs → Items system graphics w va ys → xs ≡ ys
  items_one empty empty = refl
  items_one empty (some h m) = absurd (omega arith)
  items_one (some h l) empty = absurd (omega arith)
  items_one (some h l) (some k m) = list_one l m

  -- ---- trees

  pub data_one : {s : List ℕ} {ps qs : List (List ℕ)} → Data system graphics s ps → Data system graphics s qs → ps ≡ qs
  data_one (no_data e) (no_data f) = refl
  data_one (no_data e) (data_at l g a) = absurd (omega arith)
  data_one (data_at l g a) (no_data e) = absurd (omega arith)
  data_one {qs = qs} (data_at l g a) (data_at k h b) = array_one a (rw (good_one h g) at b)

  pub trees_one : {vas : List ℕ} {j k : ℕ} {ps qs : List (List ℕ)} → Trees system graphics vas j ps → Trees system graphics vas k qs → (j ≡ k) × (ps ≡ qs)
  trees_one Trees.none Trees.none = (refl, refl)
  trees_one (Trees.tree {s = s} g d t ts) (Trees.tree h e u us) =
      let same = good_one h g in
      let here = data_one d (rw same at e) in
      let below = trees_one t (rw same at u) in
      let others = trees_one ts us in
      (omega (arith, below.0, others.0), cc (here, below.1, others.1))

-- ---- polygons

pub polygon_one : {vs is es : List (List ℕ)} {ls : List ℕ} {area : ℕ → ℕ} {back : ℕ → ℕ → ℕ → Vec3} {b : List ℕ} {p q : NavPoly}
    → PolygonOf vs is es ls area back b p → PolygonOf vs is es ls area back b q → p ≡ q
polygon_one {p = p} {q = q} f g =
    let make : ℕ → ℕ → ℕ → List ℕ → List Vec3 → List NavEdge → NavPoly = λ a b c d e h. record { flags0 = a; flags1 = b; flags2 = c; links = d; vertices = e; edges = h } in
    let e₀ : p.flags0 ≡ q.flags0 = f.flags0 ∙ sym g.flags0 in
    let e₁ : p.flags1 ≡ q.flags1 = f.flags1 ∙ sym g.flags1 in
    let e₂ : p.flags2 ≡ q.flags2 = f.flags2 ∙ sym g.flags2 in
    let e₃ : p.links ≡ q.links = f.links_are ∙ sym g.links_are in
    let e₄ : p.vertices ≡ q.vertices = f.vertices_are ∙ sym g.vertices_are in
    let e₅ : p.edges ≡ q.edges = f.edges_are ∙ sym g.edges_are in
    let whole : make p.flags0 p.flags1 p.flags2 p.links p.vertices p.edges ≡ make q.flags0 q.flags1 q.flags2 q.links q.vertices q.edges = rw (e₀, e₁, e₂, e₃, e₄, e₅) in
    whole

pub each_one : {A B : Type 0} {R : A → B → Type 0} → ((a : A) (b c : B) → R a b → R a c → b ≡ c)
    → {xs : List A} {ys zs : List B} → Each R xs ys → Each R xs zs → ys ≡ zs
each_one one none none = refl
each_one one (more f fs) (more g gs) = let h = one _ _ _ f g in let t = each_one one fs gs in cc

-- ---- the cell and its strip

module _ (system graphics : List ℕ) where
  pub makes_one : {j k : ℕ} {c d : Cell} → Makes system graphics j c → Makes system graphics k d → (j ≡ k) × (c ≡ d)
  makes_one {j} {k} {c} {d} l m =
      let h : l.header ≡ m.header = good_one system graphics l.header_good m.header_good in
      let r : l.root ≡ m.root = good_one system graphics l.root_good (rw (← h) at m.root_good) in
      let head : c.head ≡ d.head = l.head_is ∙ ap (λ (x : List ℕ). head_of x l.root) h ∙ ap (head_of m.header) r ∙ sym m.head_is in
      let vs : l.vertices ≡ m.vertices = items_one system graphics l.vertex_list (rw (← h) at m.vertex_list) in
      let is : l.indices ≡ m.indices = items_one system graphics l.index_list (rw (← h) at m.index_list) in
      let es : l.edges ≡ m.edges = items_one system graphics l.edge_list (rw (← h) at m.edge_list) in
      let bs : l.polygons ≡ m.polygons = items_one system graphics l.polygon_list (rw (← h) at m.polygon_list) in
      let qs : l.portals ≡ m.portals = array_one system graphics l.portal_list (rw (← h) at m.portal_list) in
      let ts : (j ≡ k) × (l.points ≡ m.points) = trees_one system graphics l.tree (rw (← h) at m.tree) in
      let polys : c.polys ≡ d.polys = each_one (λ b p q f g. polygon_one f g) l.polygons_are (rw (← h, ← head, ← vs, ← is, ← es, ← bs) at m.polygons_are) in
      let portals : c.portals ≡ d.portals = l.portals_are ∙ ap (λ (x : Head). map (portal_of (back_of x)) l.portals) head ∙ ap (map (portal_of (back_of d.head))) qs ∙ sym m.portals_are in
      let points : c.points ≡ d.points = l.points_are ∙ ap (λ (x : Head). map (point_of (back_of x)) l.points) head ∙ ap (map (point_of (back_of d.head))) ts.1 ∙ sym m.points_are in
      let make : Head → List NavPoly → List NavPortal → List NavPoint → Cell = λ a b c d. record { head = a; polys = b; portals = c; points = d } in
      let whole : make c.head c.polys c.portals c.points ≡ make d.head d.polys d.portals d.points = rw (head, polys, portals, points) in
      (ts.0, whole)

  -- the grammar derives one strip at most, from trees of one size
  pub derives_one : {v w : List ℕ} → Derives system graphics v → Derives system graphics w → v ≡ w
  derives_one f g = f.strip ∙ ap encode (makes_one f.makes g.makes).1 ∙ sym g.strip

  pub sectors_one : {v w : List ℕ} (f : Derives system graphics v) (g : Derives system graphics w) → f.sectors ≡ g.sectors
  sectors_one f g = (makes_one f.makes g.makes).0
