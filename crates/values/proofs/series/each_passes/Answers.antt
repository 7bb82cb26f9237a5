-- `each_passes` meets its contract: each turn adds the two tests of one number. Assumes nothing.
use Rattle.std.proofs.Common.{◌≡◌, ℕ, ◌+◌, ◌-◌, ◌<◌, refl, ◌^◌, Bool, not, ◌&&◌, T, eqb, arith}
use lib.Ieee.{Float, binary64, fits, to_bits}
use Rattle.cells.proofs.Parts.{lent_long, lent_cell}
use Rattle.values.specs.inner.Part.{Answers}
use Rattle.values.proofs.Both.{none_tested, one_tested}
use Rattle.values.proofs.series.each_passes.Goals as goal

-- a number's two tests
parts : {test : Float → Bool} {gives : Float → Bool → Type 0} → Answers test gives → (x y : Float) (r : Bool) (bits : ℕ)
    → x ≡ y → T (fits binary64 y) → gives x r → eqb bits 0 ≡ not (eqb (to_bits binary64 x) (2 ^ 63))
    → r && eqb bits 0 ≡ test y
parts answers x y r bits e f g q = rw (q, ← e) (answers.as_test x r (rw e f) g)

pub loop-x-init : goal.loop-x-init
loop-x-init g c = λ test answers. none_tested

pub loop-x-preserved : goal.loop-x-preserved
loop-x-preserved g c =
    λ test answers.
    let a = c.args in
    let at = c.loop-x.x-index in
    let room = lent_long a.first (a.first + a.count) a.s.now c.requires.s_in_bounds in
    let here : at < a.count = omega (arith, c.loop-x-test.true) in
    let cell = lent_cell a.first (a.first + a.count - a.first) at a.s.now (omega arith) in
    let before = c.loop-x.invariant test answers in
    one_tested c.passes-passed.result c.minus_zero_bits-minus_zeros.result (a.first + at) before
    (parts answers _ _ c.passes-passed.result c.minus_zero_bits-minus_zeros.result cell (c.type_inv.s (a.first + at))
    c.passes-passed.ensures c.minus_zero_bits-minus_zeros.ensures)
    refl
