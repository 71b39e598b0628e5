-- `leaf_replay::agrees` meets its contract: each kind has its callee's promise.
use mathlib.Core.Bool.{false≢true}
use Rattle.leaf_replay.specs.Agreement.{as_short, as_back, as_quarter, as_areas, as_place, as_strip, as_pick, as_drawing, as_seams, as_walk}
use Rattle.leaf_replay.proofs.agrees.Goals as goal

pub returns-in-1 : goal.returns-in-1
returns-in-1 c = λ h. rw c.in-1.is (as_short (c.short_agrees.ensures h))

pub returns-in-2 : goal.returns-in-2
returns-in-2 c = λ h. rw c.in-2.is (as_back (c.back_agrees.ensures h))

pub returns-in-3 : goal.returns-in-3
returns-in-3 c = λ h. rw c.in-3.is (as_quarter (c.quarter_agrees.ensures h))

pub returns-in-4 : goal.returns-in-4
returns-in-4 c = λ h. rw c.in-4.is (as_areas (c.areas_agree.ensures h))

pub returns-in-5 : goal.returns-in-5
returns-in-5 c = λ h. rw c.in-5.is (as_place (c.place_agrees.ensures h))

pub returns-in-6 : goal.returns-in-6
returns-in-6 c = λ h. rw c.in-6.is (as_strip (c.strip_agrees.ensures h))

pub returns-in-7 : goal.returns-in-7
returns-in-7 c = λ h. rw c.in-7.is (as_pick (c.pick_agrees.ensures h))

pub returns-in-8 : goal.returns-in-8
returns-in-8 c = λ h. rw c.in-8.is (as_drawing (c.drawing_agrees.ensures h))

pub returns-in-9 : goal.returns-in-9
returns-in-9 c = λ h. rw c.in-9.is (as_seams (c.seams_agree.ensures h))

pub returns-in-10 : goal.returns-in-10
returns-in-10 c = λ h. rw c.in-10.is (as_walk (c.walk_agrees.ensures h))

pub returns-in-0 : goal.returns-in-0
returns-in-0 c = λ h. absurd (false≢true h)

pub returns-in-0-2 : goal.returns-in-0-2
returns-in-0-2 c = λ h. absurd (false≢true h)
