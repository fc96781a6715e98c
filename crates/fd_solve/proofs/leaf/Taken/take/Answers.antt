use Rattle.std.proofs.Common.{◌≡◌, ℕ, ◌-◌, Bool, List, Some, true, ap, length, refl, sym, subst, ◌∙◌, arith}
use Rattle.fd_prob.specs.declared.problem.Extra.{Extra}
use Rattle.fd_prob.specs.declared.problem.Problem.{Problem}
use Rattle.fd_solve.specs.declared.known.Known.{Known}
use Rattle.fd_solve.specs.declared.leaf.Taken.{Taken}
use Rattle.fd_solve.specs.declared.ready.Ready.{Ready}
use Rattle.fd_solve.specs.Internal.Known.{IsKnown}
use Rattle.fd_solve.specs.Internal.Marks.{with_marked}
use Rattle.fd_solve.specs.Internal.Ready.{IsReady}
use Rattle.fd_solve.proofs.Asking.{none_dropped}
use Rattle.fd_solve.proofs.Biases.{none_next, sound_next, taken_dropped, taken_kept, told_dropped, told_kept, within_next}
use Rattle.fd_solve.proofs.FirstMarks.{ready_next, ready_wider}
use Rattle.fd_solve.proofs.leaf.Taken.take.Goals as goal

known_is : (p : Problem) (biases : List Extra) (nodes : ℕ) (known : Known) (seen after : List Bool) → seen ≡ after → IsKnown (with_marked seen biases p) nodes known → IsKnown (with_marked after biases p) nodes known
known_is p biases nodes known seen after same is = subst (λ (ms : List Bool). IsKnown (with_marked ms biases p) nodes known) same is

ready_is : (p : Problem) (biases : List Extra) (ready : Ready) (seen after : List Bool) → seen ≡ after → IsReady p biases seen (length seen - 1) ready → IsReady p biases after (length after - 1) ready
ready_is p biases ready seen after same is = subst (λ (ms : List Bool). IsReady p biases ms (length ms - 1) ready) same is

pub known_next-requires-clause-sound : goal.known_next-requires-clause-sound
known_next-requires-clause-sound c = sound_next c.args.p.now c.args.biases.now c.args.nodes c.args.self.now c.args.bias.now c.requires.entries c.requires.more c.requires.next c.deref.result.now c.base_of.result.now c.in_ok-firsts.firsts c.requires.problem c.requires.told c.base_of.ensures c.in_ok-firsts.ensures.problem c.in_ok-firsts.ensures.firsts (c.deref.ensures.value ∙ c.in_ok-push.ensures.items)

pub known_next-requires-clause-ready : goal.known_next-requires-clause-ready
known_next-requires-clause-ready c = ready_next c.args.p.now c.args.biases.now c.args.self.now.marks.items c.deref.result.now true c.args.self.now.ready (c.deref.ensures.value ∙ c.in_ok-push.ensures.items) c.requires.told.ready

pub known_next-requires-clause-none : goal.known_next-requires-clause-none
known_next-requires-clause-none c = none_next c.args.p.now c.args.biases.now c.args.nodes c.args.self.now c.args.bias.now c.requires.entries c.requires.more c.requires.next c.deref.result.now c.requires.problem c.requires.told (c.deref.ensures.value ∙ c.in_ok-push.ensures.items)

pub known_next-requires-clause-within : goal.known_next-requires-clause-within
known_next-requires-clause-within c = within_next c.args.p.now c.args.biases.now c.args.nodes c.args.self.now c.args.bias.now c.requires.entries c.requires.more c.requires.next c.deref.result.now c.requires.told (c.deref.ensures.value ∙ c.in_ok-push.ensures.items)

pub keep-requires-clause-sound : goal.keep-requires-clause-sound
keep-requires-clause-sound c = sound_next c.args.p.now c.args.biases.now c.args.nodes c.args.self.now c.args.bias.now c.requires.entries c.requires.more c.requires.next c.deref.result.now c.base_of.result.now c.in_ok-firsts.firsts c.requires.problem c.requires.told c.base_of.ensures c.in_ok-firsts.ensures.problem c.in_ok-firsts.ensures.firsts (c.deref.ensures.value ∙ c.in_ok-push.ensures.items)

pub keep-requires-clause-ready : goal.keep-requires-clause-ready
keep-requires-clause-ready c = ready_wider c.args.p.now c.args.biases.now c.deref.result.now (length c.deref.result.now - 1) (length c.deref.result.now) c.known_next.new.ready (omega arith) c.in_ok-done.ensures.ready

pub returns-in_ok-keep-in-None-clause-taken : goal.returns-in_ok-keep-in-None-clause-taken
returns-in_ok-keep-in-None-clause-taken c =
    let new : Taken = record { marks = c.push.new.self; firsts = Some c.in_ok-firsts.firsts; known = c.in_ok-done.done.0; ready = c.keep.new.self; dropped = c.args.self.now.dropped } in
    taken_kept c.args.p.now c.args.biases.now c.args.nodes c.args.self.now c.args.bias.now c.requires.entries c.requires.more c.requires.next c.push.new.self.items c.in_ok-push.ensures.items c.in_ok-done.done.0 (known_is c.args.p.now c.args.biases.now c.args.nodes c.in_ok-done.done.0 c.deref.result.now c.push.new.self.items c.deref.ensures.value c.in_ok-done.ensures.known) new (sym c.in-None.ensures) refl refl

pub returns-in_ok-keep-in-None-clause-told : goal.returns-in_ok-keep-in-None-clause-told
returns-in_ok-keep-in-None-clause-told c =
    let new : Taken = record { marks = c.push.new.self; firsts = Some c.in_ok-firsts.firsts; known = c.in_ok-done.done.0; ready = c.keep.new.self; dropped = c.args.self.now.dropped } in
    let sound = sound_next c.args.p.now c.args.biases.now c.args.nodes c.args.self.now c.args.bias.now c.requires.entries c.requires.more c.requires.next c.push.new.self.items c.base_of.result.now c.in_ok-firsts.firsts c.requires.problem c.requires.told c.base_of.ensures c.in_ok-firsts.ensures.problem c.in_ok-firsts.ensures.firsts c.in_ok-push.ensures.items in
    let ready = subst (λ (ms : List Bool). IsReady c.args.p.now c.args.biases.now ms (length ms) c.keep.new.self) c.deref.ensures.value c.in_ok-keep-in-None.ensures in
    told_kept c.args.p.now c.args.biases.now c.args.nodes c.push.new.self.items c.in_ok-firsts.firsts c.in_ok-done.done.0 new sound (known_is c.args.p.now c.args.biases.now c.args.nodes c.in_ok-done.done.0 c.deref.result.now c.push.new.self.items c.deref.ensures.value c.in_ok-done.ensures.known) refl refl refl ready

pub refuse-requires-clause-sound : goal.refuse-requires-clause-sound
refuse-requires-clause-sound c = sound_next c.args.p.now c.args.biases.now c.args.nodes c.args.self.now c.args.bias.now c.requires.entries c.requires.more c.requires.next c.deref.result.now c.base_of.result.now c.in_ok-firsts.firsts c.requires.problem c.requires.told c.base_of.ensures c.in_ok-firsts.ensures.problem c.in_ok-firsts.ensures.firsts (c.deref.ensures.value ∙ c.in_ok-push.ensures.items)

pub refuse-requires-clause-none : goal.refuse-requires-clause-none
refuse-requires-clause-none c unspent = none_dropped (with_marked c.deref.result.now c.args.biases.now c.args.p.now) c.args.nodes c.in_ok-done.done.0 (sym c.in-Some.ensures ∙ ap Some unspent) c.in_ok-done.ensures.known

pub returns-in_ok-unmark-in-Some-clause-taken : goal.returns-in_ok-unmark-in-Some-clause-taken
returns-in_ok-unmark-in-Some-clause-taken c = taken_dropped c.args.p.now c.args.biases.now c.args.nodes c.args.self.now c.args.bias.now c.requires.entries c.requires.more c.requires.next c.push.new.self.items c.in_ok-push.ensures.items c.in_ok-done.done.0 (known_is c.args.p.now c.args.biases.now c.args.nodes c.in_ok-done.done.0 c.deref.result.now c.push.new.self.items c.deref.ensures.value c.in_ok-done.ensures.known) c.in-Some.spent c.unmark.new.self (sym c.in-Some.ensures) c.in_ok-unmark-in-Some.ensures.marks c.in_ok-unmark-in-Some.ensures.dropped

pub returns-in_ok-unmark-in-Some-clause-told : goal.returns-in_ok-unmark-in-Some-clause-told
returns-in_ok-unmark-in-Some-clause-told c = told_dropped c.args.p.now c.args.biases.now c.args.nodes c.args.self.now c.push.new.self.items c.unmark.new.self c.in_ok-push.ensures.items c.in_ok-unmark-in-Some.ensures.marks c.in_ok-unmark-in-Some.ensures.firsts c.in_ok-unmark-in-Some.ensures.known c.refuse.new.self c.in_ok-unmark-in-Some.ensures.ready (ready_is c.args.p.now c.args.biases.now c.refuse.new.self c.deref.result.now c.push.new.self.items c.deref.ensures.value c.in_ok-refuse-in-Some.ensures) c.requires.told
