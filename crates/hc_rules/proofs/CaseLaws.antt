-- What the cases of heads say of their heads.
use Rattle.std.proofs.Common.{arith, ◌≡◌, ◌≤◌}
use Rattle.hc_text.proofs.Basics.{either}
use Rattle.hc_rules.specs.{declared.{need.Route.{Route}, heads.HeadView.{HeadView}}, Needs.{route_of}, HeadCases.{head_case, case_on, direct_case, turn_case, first_case, later_case}, Laws.{IsRightCase, CasesAreRight}}

direct-right : (v : HeadView) → IsRightCase v (direct_case v)
direct-right v = either (IsRightCase v) v.bad _ _ (λ bad. bad) (λ good. good)

turn-right : (v : HeadView) → IsRightCase v (turn_case v)
turn-right v = search arith

first-right : (v : HeadView) → IsRightCase v (first_case v)
first-right v = search arith

later-right : (v : HeadView) → IsRightCase v (later_case v)
later-right v = either (IsRightCase v) v.bad _ _ (λ bad. bad) (λ good. either (IsRightCase v) v.joins _ _ (λ h. (good, h)) (λ apart. (good, apart)))

case-right : (route : Route) (v : HeadView) → IsRightCase v (case_on route v)
case-right route v = search (arith, direct-right, turn-right, either, later-right, first-right)

pub cases-right : CasesAreRight
unfolding head_case
cases-right v = case-right (route_of v.need) v
