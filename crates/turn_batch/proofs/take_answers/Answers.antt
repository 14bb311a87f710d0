use Rattle.std.proofs.{Common.{[], ◌∷◌, ◌++◌, refl, sym, ◌∙◌, subst, arith}, lemmas.List.{append-nil, length-set}}
use Rattle.std.specs.Option.{IsSome}
use Rattle.turn_batch.proofs.{Lists.appended_more, Takings.{none_taken, next_answered, one_more_taken, all_taken}}
use Rattle.turn_batch.proofs.take_answers.Goals as goal

pub loop-pass-init : goal.loop-pass-init
loop-pass-init g c = record { even = refl; taken = ([], sym (append-nil c.args.items.now.items), none_taken c.args.passes.now); room = omega arith }

pub unwrap-requires : goal.unwrap-requires
unwrap-requires g c =
    let l = c.loop-pass in
    let so_far = l.invariant.taken in
    subst IsSome (sym c.take_kept.ensures.answer) (next_answered l.pass-index c.args.passes.now l.passes so_far.0 c.pass-item.result c.requires.answered so_far.2 (omega arith))

pub loop-pass-preserved : goal.loop-pass-preserved
loop-pass-preserved g c =
    let l = c.loop-pass in
    let so_far = l.invariant.taken in
    record {
      even = length-set l.passes l.pass-index c.take_kept.new.self ∙ l.invariant.even;
      taken = (
        so_far.0 ++ c.unwrap.result ∷ [],
        appended_more c.args.items.now.items so_far.0 l.items.items c.push_reserved.new.self.items c.unwrap.result so_far.1 c.push_reserved.ensures.items,
        one_more_taken l.pass-index c.args.passes.now l.passes so_far.0 c.pass-item.result c.take_kept.new.self c.unwrap.result so_far.2 (omega arith) l.invariant.even
            (sym c.take_kept.ensures.answer ∙ c.unwrap.ensures) c.take_kept.ensures.same,
      );
      room = omega (arith, length-set l.passes l.pass-index c.take_kept.new.self);
    }

pub returns : goal.returns
returns g c =
    let l = c.loop-pass in
    let so_far = l.invariant.taken in
    (so_far.0, so_far.1, all_taken l.pass-index c.args.passes.now l.passes so_far.0 so_far.2 (omega arith) l.invariant.even)
