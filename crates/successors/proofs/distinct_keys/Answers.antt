use Rattle.std.specs.Prelude.{◌≡◌, length}
use Rattle.std.proofs.Common.{◌∙◌, sym, arith, lit<}
use Rattle.successors.specs.Parts.{up_to}
use Rattle.successors.specs.Successors.{firsts}
use Rattle.successors.specs.Firsts.{gathered_few, gathered_new, gathered_again}
use Rattle.successors.proofs.distinct_keys.Goals as goal
use Rattle.successors.proofs.distinct_keys.Goals.{then-not-contains, else-not-contains}

pub loop-key-init : goal.loop-key-init
unfolding up_to
loop-key-init c = c.new-keys.ensures

pub push-requires : goal.push-requires
push-requires c =
    let l = c.loop-key in
    (lit< tt, omega (arith, c.requires, gathered_few c.args.list.now l.keys.items l.key-index c.loop-key-test.true l.invariant))

pub loop-key-preserved : goal.loop-key-preserved
loop-key-preserved c =
    let l = c.loop-key in
    let n = c.args.list.now in
    let there = rw c.deref.ensures.0 at c.contains.ensures.value in
    elim c.if-not-contains.branch [
      | then-not-contains w ↦ rw (w.keys-is, w.push.ensures.items) (gathered_new n l.keys.items l.key-index c.loop-key-test.true l.invariant (sym there ∙ w.if-not-contains.true))
      | else-not-contains w ↦ rw w.keys-is (gathered_again n l.keys.items l.key-index c.loop-key-test.true l.invariant (sym there ∙ w.if-not-contains.false))
    ]

pub returns : goal.returns
unfolding firsts
returns c =
    let all : length c.args.list.now ≡ c.loop-key.key-index = omega (arith, c.loop-key-test.false) in
    rw all c.loop-key.invariant
