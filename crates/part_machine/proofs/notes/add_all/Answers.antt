use Rattle.std.proofs.Common.{◌≡◌, ℕ, ◌+◌, List, [], ◌∷◌, ◌++◌, length, length-append, map, drop, get_or, sym, ap, ◌∙◌, refl, arith}
use Rattle.std.proofs.lemmas.List.{drop_more}
use Rattle.std.proofs.lemmas.List.Elements.{All-push}
use Rattle.rv_script.specs.declared.access.Access.{Access}
use Rattle.rv_script.specs.declared.access.Role.TheVariants.{Fetch}
use Rattle.rv_mem.specs.Part.{part_at}
use Rattle.foot_map.specs.Touches.{has}
use Rattle.part_machine.specs.declared.notes.Note.{Note}
use Rattle.part_machine.specs.Notes.{touched, any_masked, IsWordOf, IsWithinWord}
use Rattle.part_machine.proofs.Noting.{touch_step, mask_step, more_step, append_places}
use Rattle.part_machine.proofs.notes.add_all.Goals as goal

abbrev no_access : Access
no_access = record { role = Fetch; addr = 0; size = 0; value = 0 }

pub loop-access-preserved : goal.loop-access-preserved
loop-access-preserved c =
    let xs : List Access = c.args.accesses.now in
    let i : ℕ = c.loop-access.access-index in
    let x : Access = get_or xs i no_access in
    let hart : ℕ = c.args.hart in
    let notes : List Note = c.loop-access.notes in
    let note : Note = record { role = x.role; addr = x.addr; mask = c.in-Ok.mask; word = c.known_word-word.result } in
    let left : drop i xs ≡ x ∷ drop (i + 1) xs = drop_more xs i no_access c.loop-access-test.true in
    record {
      added = λ b h r.
          touch_step hart x (drop (i + 1) xs) c.loop-access.feet c.add.new.self c.in-Ok.ensures.added b h r
          ∙ ap (λ (ys : List Access). touched hart ys (has c.loop-access.feet) b h r) (sym left)
          ∙ c.loop-access.invariant.added b h r;
      masked = λ b h r.
          ap (λ (ns : List Note). any_masked hart ns b h r) c.push.ensures
          ∙ mask_step hart x c.in-Ok.mask c.known_word-word.result notes c.args.feet.now c.loop-access.feet c.add.new.self c.in-Ok.ensures.added c.in-Ok.ensures.mask c.loop-access.invariant.masked c.loop-access.invariant.more b h r;
      more = λ b h r t. more_step hart x c.loop-access.feet c.add.new.self c.in-Ok.ensures.added b h r (c.loop-access.invariant.more b h r t);
      places =
          ap (λ (ns : List Note). map (λ (y : Note). y.addr) ns ++ map (λ (y : Access). y.addr) (drop (i + 1) xs)) c.push.ensures
          ∙ append_places notes note (drop (i + 1) xs) x (map (λ (y : Access). y.addr) xs) refl
          (ap (λ (ys : List Access). map (λ (y : Note). y.addr) notes ++ map (λ (y : Access). y.addr) ys) (sym left) ∙ c.loop-access.invariant.places);
      count = ap length c.push.ensures ∙ omega (arith, length-append notes (note ∷ []), c.loop-access.invariant.count);
      words = rw (c.push.ensures) (All-push (IsWordOf (part_at c.args.memory.now)) notes note c.loop-access.invariant.words c.known_word-word.ensures);
      within = rw (c.push.ensures) (All-push IsWithinWord notes note c.loop-access.invariant.within c.in-Ok.ensures.within);
    }
