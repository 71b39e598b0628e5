-- A reason by its number: two reasons with one number are the same, and so are two refusals that say the same. Assumes nothing.
use Rattle.std.specs.Prelude.{ℕ, eqb, cond, ◌≡◌}
use mathlib.Core.Path.{refl, ap, sym, ◌∙◌}
use Rattle.strip.specs.Reasons.{reason_number}
use Rattle.strip.specs.Outcome.{Paper, refusal, refusal_of}
use Rattle.strip.specs.declared.Refusal.{Refusal}
use Rattle.strip.specs.declared.Reason.{Reason}
use Rattle.strip.specs.declared.Reason.TheVariants.{TooLittleWork, TooShort, BadStrip, LongInput, NoSuchCell, BoxNotFinite, ManyPolygons, VertexCount, VertexStart, ManyVertices, ManyAreas, ManyLinksOfPolygon, ManyPolygonsInLeaf, ManyPointsInLeaf, ManyPortals, ManyLinks, NoHeader, NoTree, BadSector, ManySectors, BadSectorData, BadList, ListCount, BadRun, BadIndex, BadPortals, PagesBoxNotFinite, ThinPolygon, NoSuchPolygon, FewMarks}

reason_of : ℕ → Reason
reason_of n =
    cond (eqb n 1) TooLittleWork (cond (eqb n 2) TooShort (cond (eqb n 3) BadStrip (cond (eqb n 4) LongInput (cond (eqb n 5) NoSuchCell (cond (eqb n 10) BoxNotFinite (cond (eqb n 11) ManyPolygons (cond (eqb n 12) VertexCount (cond (eqb n 13) VertexStart (cond (eqb n 14) ManyVertices (cond (eqb n 15) ManyAreas (cond (eqb n 16) ManyLinksOfPolygon (cond (eqb n 17) ManyPolygonsInLeaf (cond (eqb n 18) ManyPointsInLeaf (cond (eqb n 19) ManyPortals (cond (eqb n 20) ManyLinks (cond (eqb n 30) NoHeader (cond (eqb n 31) NoTree (cond (eqb n 32) BadSector (cond (eqb n 33) ManySectors (cond (eqb n 34) BadSectorData (cond (eqb n 35) BadList (cond (eqb n 36) ListCount (cond (eqb n 37) BadRun (cond (eqb n 38) BadIndex (cond (eqb n 39) BadPortals (cond (eqb n 40) PagesBoxNotFinite (cond (eqb n 41) ThinPolygon (cond (eqb n 42) NoSuchPolygon (cond (eqb n 43) FewMarks TooLittleWork)))))))))))))))))))))))))))))

back : (a : Reason) → reason_of (reason_number a) ≡ a
unfolding reason_of
back TooLittleWork = refl
back TooShort = refl
back BadStrip = refl
back LongInput = refl
back NoSuchCell = refl
back BoxNotFinite = refl
back ManyPolygons = refl
back VertexCount = refl
back VertexStart = refl
back ManyVertices = refl
back ManyAreas = refl
back ManyLinksOfPolygon = refl
back ManyPolygonsInLeaf = refl
back ManyPointsInLeaf = refl
back ManyPortals = refl
back ManyLinks = refl
back NoHeader = refl
back NoTree = refl
back BadSector = refl
back ManySectors = refl
back BadSectorData = refl
back BadList = refl
back ListCount = refl
back BadRun = refl
back BadIndex = refl
back BadPortals = refl
back PagesBoxNotFinite = refl
back ThinPolygon = refl
back NoSuchPolygon = refl
back FewMarks = refl

pub same_reason : (a b : Reason) → reason_number a ≡ reason_number b → a ≡ b
same_reason a b h = sym (back a) ∙ ap reason_of h ∙ back b

pub same_refusal : {A : Type 0} (g f : Refusal) → ◌≡◌ {A = Paper A} (refusal_of g) (refusal_of f) → g ≡ f
same_refusal g f h =
    let n : reason_number g.reason ≡ reason_number f.reason = cc in
    let p : g.place ≡ f.place = cc in
    let other : Reason → ℕ → Refusal = λ x y. record { reason = x; place = y } in
    ap (λ (x : Reason). other x g.place) (same_reason g.reason f.reason n) ∙ ap (λ (y : ℕ). other f.reason y) p
