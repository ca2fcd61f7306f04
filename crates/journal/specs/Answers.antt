-- Answers as they are offered: document 01's answer, a point and its value, each in or out of range.
-- Assumes nothing.
use Rattle.std.specs.Prelude.{List, map, ℤ}
use Rattle.rules.specs.declared.Answer.{Answer}

abbrev pub answer_point : Answer → ℤ
answer_point a = a.point

abbrev pub answer_value : Answer → ℤ
answer_value a = a.value

abbrev pub points : List Answer → List ℤ
points answers = map answer_point answers

abbrev pub values : List Answer → List ℤ
values answers = map answer_value answers
