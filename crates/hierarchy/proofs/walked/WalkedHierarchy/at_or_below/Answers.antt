use Rattle.std.proofs.Common.{subst, arith}
use Rattle.std.proofs.lemmas.Bool.{leb-true}
use Rattle.sets.specs.Members.{In}
use Rattle.hierarchy.specs.Linking.{linked}
use Rattle.hierarchy.specs.LinkingLemmas.{falling}
use Rattle.hierarchy.specs.Paths.{below_le}
use Rattle.hierarchy.proofs.Paths.{below_link}
use Rattle.hierarchy.proofs.walked.WalkedHierarchy.at_or_below.Goals as goal

pub returns-then-contains : goal.returns-then-contains
returns-then-contains c =
    let links = c.args.self.now.links in (
      λ _. below_link (linked links) (falling links) c.args.a c.args.b (subst (In c.args.b) c.above.ensures (c.contains.ensures.0 c.if-contains.true)),
      λ _. c.if-contains.true,
    )

pub returns-else-b-a : goal.returns-else-b-a
returns-else-b-a c =
    let links = c.args.self.now.links in
    let more = c.if-b-a.false in (
      λ e. absurd (let less = leb-true c.args.b c.args.a e in omega arith),
      λ p. absurd (let less = below_le (linked links) (falling links) c.args.a c.args.b p in omega arith),
    )
