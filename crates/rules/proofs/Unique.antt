-- Why a contract that says what the answer equals leaves no second one.
use mathlib.Core.Path.{sym, ◌∙◌}
use Rattle.rules.specs.Claims.{OneAnswer}

pub one_answer : OneAnswer
one_answer A d r r' h k = h ∙ sym k
