-- A test keeps what it has of its template.
use Rattle.std.proofs.Common.{◌≡◌, ℕ, ◌*◌, Bool, true, false, cond, [], ◌∷◌, ◌++◌, All, length, take, refl, sym, ap, subst, ◌∙◌}
use Rattle.std.specs.Prelude.{Some, None, Option, Result, Ok, Err, OnOk, OnErr, List}
use Rattle.std.proofs.lemmas.List.{length-replicate, length-set}
use Rattle.std.proofs.lemmas.List.Elements.{All-contains, All-nil, All-push, All-take, Contains-push}
use Rattle.rv_mem.specs.declared.words.Seen.TheVariants.{Vacant}
use Rattle.rv_mem.specs.Part.{valued}
use Rattle.rv_mem.specs.Ram.{in_ram}
use Rattle.rv_mem.specs.Seen.{is_there}
use Rattle.rv_script.specs.declared.access.Access.{Access}
use Rattle.rv_script.specs.declared.place.Place.{Place}
use Rattle.rv_script.specs.declared.place.Place.TheVariants.{Reg, Csr, Word}
use Rattle.rv_script.specs.Folds.{Answer.Does as DoesSo}
use Rattle.rv_hart.specs.declared.record.Change.{Change}
use Rattle.tpl_ast.specs.declared.template.Template.{Template}
use Rattle.tpl_admit.specs.Starts.{lookup}
use Rattle.tpl_ast.specs.States.{is_in_ram}
use Rattle.part_machine.specs.Whole.{Whole, given, next_of, stepped, IsReady, bare_after, hart_of, with_csr, with_register}
use Rattle.part_state.specs.Beginning.{IsBegun}
use Rattle.part_state.specs.Meaning.{place_given}
use Rattle.part_state.specs.State.{State, tests, here}
use Rattle.part_making.specs.Kept.{IsOf, AreOf}

-- the test of now is one of them
pub now_of : (t : Template) (s : State) → AreOf t s → IsOf t s.now
now_of t s all = All-contains (IsOf t) (tests s) s.now all (Contains-push s.earlier s.now)

more : (t : Template) (old new : State) → AreOf t old → new.earlier ≡ old.earlier ++ old.now ∷ [] → IsOf t new.now → AreOf t new
more t old new all e one = All-push (IsOf t) new.earlier new.now (subst (All (IsOf t)) (sym e) all) one

-- the same RAM, and as many harts and names
pub record IsLike (w x : Whole) : Type 0 where
  pub ram : w.ram ≡ x.ram
  pub harts : length w.harts ≡ length x.harts
  pub names : length w.names ≡ length x.names

changed : (t : Template) (old new : State) (w : Whole) → AreOf t old → here new ≡ w → new.earlier ≡ old.earlier ++ old.now ∷ [] → IsLike w (here old) → AreOf t new
changed t old new w all h e like =
    let o = now_of t old all in
    let r : new.now.ram ≡ old.now.ram = ap (λ (x : Whole). x.ram) h ∙ like.ram in
    let k : length new.now.harts ≡ length old.now.harts = ap (λ (x : Whole). length x.harts) h ∙ like.harts in
    let n : length new.now.names ≡ length old.now.names = ap (λ (x : Whole). length x.names) h ∙ like.names in
    more t old new all e (record { ram = λ i. o.ram i ∙ ap (λ x. in_ram x i) (sym r); harts = k ∙ o.harts; names = n ∙ o.names })

-- a change, or a refusal
pub after : {A E : Type 0} (t : Template) (old new : State) (w : Whole) (r : Result A E) → AreOf t old → OnOk r (here new ≡ w) → OnOk r (new.earlier ≡ old.earlier ++ old.now ∷ []) → OnErr r (new ≡ old) → IsLike w (here old) → AreOf t new
after t old new w (Ok a) all h e kept like = changed t old new w all h e like
after t old new w (Err x) all h e kept like = subst (AreOf t) (sym kept) all

pub like_given : (k : ℕ) (p : Place) (v : ℕ) (w : Whole) → IsLike (place_given k p v w) w
like_given k (Reg n) v w = record { ram = refl; harts = length-set w.harts k (with_register n v (hart_of k w)); names = refl }
like_given k (Csr a) v w = record { ram = refl; harts = length-set w.harts k (with_csr a v (hart_of k w)); names = refl }
like_given k (Word a) v w = record { ram = refl; harts = refl; names = refl }

like_stepped : (k : ℕ) (xs : List Access) (c : Change) (w : Whole) → IsLike (stepped k xs c w) w
like_stepped k xs c w = record { ram = refl; harts = length-set w.harts k (bare_after c (hart_of k w)); names = refl }

-- a step, or a refusal
pub after_step : {A E : Type 0} (t : Template) (old new : State) (k : ℕ) (r : Result A E) → AreOf t old → IsReady k (here old) → OnOk r ((xs : List Access) (c : Change) → next_of k (here old) ≡ DoesSo xs c → here new ≡ stepped k xs c (here old)) → OnOk r (new.earlier ≡ old.earlier ++ old.now ∷ []) → OnErr r (new ≡ old) → AreOf t new
after_step t old new k (Ok a) all ready h e kept = changed t old new (stepped k ready.accesses ready.change (here old)) all (h ready.accesses ready.change ready.does) e (like_stepped k ready.accesses ready.change (here old))
after_step t old new k (Err x) all ready h e kept = subst (AreOf t) (sym kept) all

-- a return
pub returned : (t : Template) (old new : State) (n : ℕ) → AreOf t old → tests new ≡ take n (tests old) → AreOf t new
returned t old new n all e = subst (All (IsOf t)) (sym e) (All-take (IsOf t) n (tests old) all)

there : (b : Bool) (o : Option ℕ) → is_there (cond b (valued o) Vacant) ≡ b
there true None = refl
there true (Some w) = refl
there false o = refl

-- the beginning
pub begins : (t : Template) (s : State) → IsBegun t (here s) → s.earlier ≡ [] → AreOf t s
begins t s b e =
    All-push (IsOf t) s.earlier s.now (subst (All (IsOf t)) (sym e) (All-nil (IsOf t))) (record {
      ram = λ n. sym (there (is_in_ram t.ram (n * 4)) (lookup t.words (n * 4))) ∙ (ap is_there (sym (b.memory n)) ∙ there (in_ram s.now.ram n) (given s.now.memory n));
      harts = b.count;
      names = ap length b.names ∙ length-replicate (length t.names) None;
    })
