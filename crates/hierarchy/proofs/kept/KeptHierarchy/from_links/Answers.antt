use Rattle.std.proofs.Common.{arith}
use Rattle.hierarchy.specs.Linking.{linked}
use Rattle.hierarchy.specs.LinkingLemmas.{falling}
use Rattle.hierarchy.proofs.Parts.{rows_below, rows_refl, rows_le, rows_trans}
use Rattle.hierarchy.proofs.kept.KeptHierarchy.from_links.Goals as goal

pub invariant_of-result : goal.invariant_of-result
invariant_of-result c =
    let l = c.args.links.now in
    let of = c.build-rows.result.of in
    let n = c.len.result in
    let f = falling l in
    let w = f.0 in
    let e = c.len.ensures in
    let t = c.build-rows.ensures.told in
    record {
      sized = c.build-rows.ensures.sized;
      few = omega arith;
      own = rows_refl (linked l) of n f e t;
      falls = rows_le (linked l) of n f e t;
      joins = ∣ rows_trans (linked l) of n f e t ∣₁;
    }

pub returns : goal.returns
returns c =
    let l = c.args.links.now in
    record { count = c.len.ensures; order = rows_below (linked l) c.build-rows.result.of c.len.result (falling l) c.len.ensures c.build-rows.ensures.told }
