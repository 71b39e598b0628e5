-- `parse_ynv` meets its contract. Each return by the law of its outcome (proofs/Fills).
use Prim.Native.Nat.{ℕ}
use mathlib.Core.Path.{◌≡◌, ap}
use mathlib.Core.List.{List}
use Rattle.std.specs.Borrow.{Bor}
use Rattle.std.proofs.lemmas.Result.{err_from_is_err_and}
use Rattle.ynv_read.proofs.Fills.{parse_stopped, parse_short, may_fill, parse_done}
use Rattle.ynv_read.proofs.parse_ynv.Goals as goal

pub decide-requires : goal.decide-requires
decide-requires c = record { header_is = c.header_of-header.ensures; root_is = c.root_of-root.ensures }

pub fill-requires : goal.fill-requires
fill-requires c = (record { header_is = c.header_of-header.ensures; root_is = c.root_of-root.ensures }, may_fill c.new-reader.result.system.now c.new-reader.result.graphics.now (c.decide.ensures.answer, c.decide.ensures.ready) c.in_ok-parsed.was c.if-strip-parsed.false)

pub returns-in_err-parsed : goal.returns-in_err-parsed
returns-in_err-parsed c =
    let p = err_from_is_err_and c.from_residual.result c.from_residual.ensures.1 in
    let s : c.new-reader.result.system.now ≡ c.args.system.now = ap (λ (b : Bor (List ℕ)). b.now) c.new-reader.ensures.system in
    let g : c.new-reader.result.graphics.now ≡ c.args.graphics.now = ap (λ (b : Bor (List ℕ)). b.now) c.new-reader.ensures.graphics in
    let w = parse_stopped c.new-reader.result.system.now c.new-reader.result.graphics.now (c.decide.ensures.answer, c.decide.ensures.ready) c.in_err-parsed.was c.args.strip.now in
    record { answer = rw (p.1, p.2) (rw (s, g) at w.0); strip = rw (s, g) at w.1 }

pub returns-then-strip-parsed : goal.returns-then-strip-parsed
returns-then-strip-parsed c =
    let s : c.new-reader.result.system.now ≡ c.args.system.now = ap (λ (b : Bor (List ℕ)). b.now) c.new-reader.ensures.system in
    let g : c.new-reader.result.graphics.now ≡ c.args.graphics.now = ap (λ (b : Bor (List ℕ)). b.now) c.new-reader.ensures.graphics in
    let w = parse_short c.new-reader.result.system.now c.new-reader.result.graphics.now (c.decide.ensures.answer, c.decide.ensures.ready) c.in_ok-parsed.was c.args.strip.now c.if-strip-parsed.true in
    record { answer = rw c.from.ensures (rw (s, g) at w.0); strip = rw (s, g) at w.1 }

pub returns : goal.returns
returns c =
    let s : c.new-reader.result.system.now ≡ c.args.system.now = ap (λ (b : Bor (List ℕ)). b.now) c.new-reader.ensures.system in
    let g : c.new-reader.result.graphics.now ≡ c.args.graphics.now = ap (λ (b : Bor (List ℕ)). b.now) c.new-reader.ensures.graphics in
    let w = parse_done c.new-reader.result.system.now c.new-reader.result.graphics.now (c.decide.ensures.answer, c.decide.ensures.ready) c.in_ok-parsed.was c.args.strip.now c.if-strip-parsed.false c.fill.ensures in
    record { answer = rw (s, g) at w.0; strip = rw (s, g) at w.1 }
