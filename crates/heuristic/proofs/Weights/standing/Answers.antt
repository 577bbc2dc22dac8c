use Rattle.std.proofs.Common.{◌≡◌, ◌∷◌, ◌++◌, length, arith, sym, ap, subst, length-append}
use Rattle.std.proofs.lemmas.Grind.{common_steps}
use Rattle.std.specs.Iterator.Adapters.{rev_source}
use Rattle.std.specs.Slice.Iter.{iter_rest}
use Rattle.window.specs.Pack.{Keys}
use Rattle.window.specs.Laws.{keys_behind}
use Rattle.window.specs.Keys.{keys_of, keys_length}
use Rattle.heuristic.proofs.Weights.standing.Goals as goal

pub write-n-requires : goal.write-n-requires
write-n-requires c = (c.requires.0, keys_length c.args.state)

pub count-h-requires : goal.count-h-requires
count-h-requires c =
    let v = c.loop-key.invariant in
    let w = keys_of c.args.state in
    let rest = iter_rest (rev_source c.next.new.self) in
    let e : rest ++ (c.in-Some.field-0.now ∷ v.0) ≡ w = grind (arith, common_steps) in
    let k : Keys 6 (c.in-Some.field-0.now ∷ v.0) = keys_behind 6 rest _ (subst (Keys 6) (sym e) c.requires.0.keys) in
    let p = c.requires.1 in
    (k.0, (v.0, (p.0, v.2 p.0 p.1 p.2, omega (arith, p.2, ap length e, keys_length c.args.state, length-append rest (c.in-Some.field-0.now ∷ v.0)))))

pub loop-key-preserved : goal.loop-key-preserved
loop-key-preserved c =
    let v = c.loop-key.invariant in
    let w = keys_of c.args.state in
    let rest = iter_rest (rev_source c.next.new.self) in
    let e : rest ++ (c.in-Some.field-0.now ∷ v.0) ≡ w = grind (arith, common_steps) in
    (_, e, λ goal st z. c.count-h.ensures v.0 goal (v.2 goal st z) (omega (arith, ap length e, keys_length c.args.state, length-append rest (c.in-Some.field-0.now ∷ v.0))))
