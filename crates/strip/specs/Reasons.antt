-- The number of each reason for a refusal. Definitions only.
use Rattle.std.specs.Prelude.{ℕ}
use Rattle.strip.specs.declared.Reason.{Reason}
use Rattle.strip.specs.declared.Reason.TheVariants.{TooLittleWork, TooShort, BadStrip, LongInput, NoSuchCell, BoxNotFinite, ManyPolygons, VertexCount, VertexStart, ManyVertices, ManyAreas, ManyLinksOfPolygon, ManyPolygonsInLeaf, ManyPointsInLeaf, ManyPortals, ManyLinks, NoHeader, NoTree, BadSector, ManySectors, BadSectorData, BadList, ListCount, BadRun, BadIndex, BadPortals, PagesBoxNotFinite, ThinPolygon, NoSuchPolygon, FewMarks}

abbrev pub reason_number : Reason → ℕ
reason_number TooLittleWork = 1
reason_number TooShort = 2
reason_number BadStrip = 3
reason_number LongInput = 4
reason_number NoSuchCell = 5
reason_number BoxNotFinite = 10
reason_number ManyPolygons = 11
reason_number VertexCount = 12
reason_number VertexStart = 13
reason_number ManyVertices = 14
reason_number ManyAreas = 15
reason_number ManyLinksOfPolygon = 16
reason_number ManyPolygonsInLeaf = 17
reason_number ManyPointsInLeaf = 18
reason_number ManyPortals = 19
reason_number ManyLinks = 20
reason_number NoHeader = 30
reason_number NoTree = 31
reason_number BadSector = 32
reason_number ManySectors = 33
reason_number BadSectorData = 34
reason_number BadList = 35
reason_number ListCount = 36
reason_number BadRun = 37
reason_number BadIndex = 38
reason_number BadPortals = 39
reason_number PagesBoxNotFinite = 40
reason_number ThinPolygon = 41
reason_number NoSuchPolygon = 42
reason_number FewMarks = 43
