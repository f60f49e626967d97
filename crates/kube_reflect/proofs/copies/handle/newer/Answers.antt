use Rattle.std.proofs.Common.{arith}
use mathlib.Core.List.{IsPrefix}
use Rattle.kube_reflect.proofs.Fronts.{prefix_shorter}
use Rattle.kube_reflect.proofs.copies.handle.newer.Goals as goal

pub returns-then-mark-found-clause-some : goal.returns-then-mark-found-clause-some
returns-then-mark-found-clause-some g c =
    let mine = c.args.mark.now in
    let found = c.args.found.now in
    let both = c.learn.new.self.log in
    let p : IsPrefix mine.seen.log both = rw c.again-both.ensures at c.learn.ensures.2 in
    let a = mine.fits in
    let b = found.fits in
    (c.again.ensures, prefix_shorter mine.seen.log found.seen.log both p c.learn.ensures.3 (omega arith))

pub returns-clause-none : goal.returns-clause-none
returns-clause-none g c =
    let mine = c.args.mark.now in
    let found = c.args.found.now in
    let both = c.learn.new.self.log in
    let p : IsPrefix mine.seen.log both = rw c.again-both.ensures at c.learn.ensures.2 in
    let a = mine.fits in
    let b = found.fits in
    (λ n. prefix_shorter found.seen.log mine.seen.log both c.learn.ensures.3 p (omega arith))
