use Rattle.std.proofs.Common.{◌≡◌, Some, subst}
use Rattle.records.specs.declared.View.{View}
use Rattle.acceptance.specs.declared.rejection.Rule.TheVariants.{Clashing}
use Rattle.acceptance.specs.Rejections.{breach}
use Rattle.acceptance.specs.Checks.{Checked}
use Rattle.acceptance.proofs.Clashing.{pairs_pass, pairs_fail}
use Rattle.acceptance.proofs.orders.Orders.check_pairs.Goals as goal

pub returns-in-Some : goal.returns-in-Some
unfolding Checked
returns-in-Some g c =
    let all = c.args.self.now.records.now in
    let i = c.in-Some.first in
    let j = c.in-Some.second in
    pairs_fail all i j c.of_rule.result (subst (λ (v : View). c.of_rule.result ≡ breach Clashing v (Some j)) c.view.ensures c.of_rule.ensures) c.in-Some.ensures

pub returns-in-None : goal.returns-in-None
unfolding Checked
returns-in-None g c = pairs_pass c.args.self.now.records.now c.in-None.ensures
