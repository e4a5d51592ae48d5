use Prim.Native.Nat.{◌+◌, ◌<◌, ◌*◌, ◌/◌, ◌%◌}
use mathlib.Core.Path.{◌≡◌, sym}
use native.Mathlib.Omega.{arith}
use native.Mathlib.Nat.{mod-lt}
use Rattle.margin.proofs.Nearest.{goes_up, goes_down}
use Rattle.margin.proofs.nearest_whole.Goals as goal

pub returns-in-Less : goal.returns-in-Less
returns-in-Less c = let num = c.args.num in
    let den = c.args.den in
    let less : num % den * 2 < den = grind (arith, mod-lt num c.requires.1, c.in-Less.ensures) in
    sym (goes_down num den c.requires.1 (omega arith) (λ half. absurd (omega arith)))

pub returns-in-Greater : goal.returns-in-Greater
returns-in-Greater c = let num = c.args.num in
    let den = c.args.den in
    let more : den < num % den * 2 = grind (arith, mod-lt num c.requires.1, c.in-Greater.ensures) in
    sym (goes_up num den c.requires.1 (omega arith) (λ half. absurd (omega arith)))

pub returns-then-n-eq0 : goal.returns-then-n-eq0
returns-then-n-eq0 c = let num = c.args.num in
    let den = c.args.den in
    let half : num % den * 2 ≡ den = grind (arith, mod-lt num c.requires.1, c.in-Equal.ensures) in
    let even : num / den % 2 ≡ 0 = omega (arith, c.if-n-eq0.true) in
    sym (goes_down num den c.requires.1 (omega arith) (λ half. even))

pub returns-else-n-eq0 : goal.returns-else-n-eq0
returns-else-n-eq0 c = let num = c.args.num in
    let den = c.args.den in
    let half : num % den * 2 ≡ den = grind (arith, mod-lt num c.requires.1, c.in-Equal.ensures) in
    let even : (num / den + 1) % 2 ≡ 0 = omega (arith, c.if-n-eq0.false) in
    sym (goes_up num den c.requires.1 (omega arith) (λ half. even))
