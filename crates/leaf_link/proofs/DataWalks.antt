-- The walk of a data access, entry by entry.
use Rattle.std.proofs.Common.{◌≡◌, ℕ, if◌then◌else◌, ◌+◌, ◌*◌, ◌/◌, ◌%◌, ◌^◌, ◌<◌, ◌⊎◌, Bool, true, false, not, ◌&&◌, ◌||◌, List, [], ◌∷◌, refl, sym, ap, ◌∙◌, subst, inl, inr, arith}
use Rattle.rv_csr.specs.declared.cause.Cause.{Cause}
use Rattle.rv_script.specs.Lists.{HasItem}
use Rattle.rv_script.specs.Logs.{answer_told}
use Rattle.rv_script.specs.Script.{Label, Label.DataRoot, Label.DataSecond, Question, Question.OfMemory, Script.Ask, Script.Done, Script.Outside, told as told_of}
use Rattle.rv_script.specs.Folds.{Answer.Does, Entry, Teller}
use Rattle.rv_script.proofs.Plays.{entry, first_asked}
use Rattle.sv_walk.specs.declared.entry.Kind.{Kind}
use Rattle.sv_walk.specs.declared.entry.View.{View}
use Rattle.sv_walk.specs.Entry.{access_cause, is_closed, is_invalid, is_pointer, is_reserved, is_unaligned, page_cause}
use Rattle.sv_walk.specs.Translation.{At, Fails, Reached, arrived, from_pointer, from_root, is_in_ram, is_translated, root_address, root_label, second_address, second_end, second_label, translated}
use Rattle.leaf_link.proofs.Front.{same_done}

-- an entry leads to a table
abbrev pub leads : ℕ → Bool
leads entry = not (is_invalid entry) && is_pointer entry

abbrev pub root_asked : View → ℕ → Question
root_asked v ea = OfMemory DataRoot (root_address v ea) 4

abbrev pub second_asked : ℕ → ℕ → Question
second_asked ea root = OfMemory DataSecond (second_address ea root) 4

-- nothing was asked, the root entry alone, or both entries; where the walk leads to an address, all that it has to ask for was
pub record IsBare (v : View) (walk : List Entry) (end : Reached) : Type 0 where
  pub walk_is : walk ≡ []
  pub plain : (p : ℕ) → end ≡ At p → is_translated v ≡ false

pub record IsRooted (v : View) (ea : ℕ) (walk : List Entry) (end : Reached) : Type 0 where
  pub root : ℕ
  pub translated : is_translated v ≡ true
  pub walk_is : walk ≡ entry (root_asked v ea) root ∷ []
  pub ends : (p : ℕ) → end ≡ At p → leads root ≡ false

pub record IsDeep (v : View) (ea : ℕ) (walk : List Entry) : Type 0 where
  pub root : ℕ
  pub second : ℕ
  pub translated : is_translated v ≡ true
  pub walk_is : walk ≡ entry (root_asked v ea) root ∷ entry (second_asked ea root) second ∷ []
  pub leads_on : leads root ≡ true

abbrev pub IsWalk : View → ℕ → List Entry → Reached → Type 0
IsWalk v ea walk end = IsBare v walk end ⊎ (IsRooted v ea walk end ⊎ IsDeep v ea walk)

-- a kind that asks for the entries of data
pub record IsOfData (kind : Kind) : Type 0 where
  pub root : root_label kind ≡ DataRoot
  pub second : second_label kind ≡ DataSecond

told_whole : (label : Label) (addr v : ℕ) → addr % 4 ≡ 0 → v < 2 ^ 32 → told_of (OfMemory label addr 4) v ≡ v
told_whole label addr v h small = ap (λ (n : ℕ). v / 256 ^ n % 256 ^ 4) h ∙ omega (arith, small)

pub root_aligned : (v : View) (ea : ℕ) → root_address v ea % 4 ≡ 0
root_aligned v ea = omega arith

pub second_aligned : (ea root : ℕ) → second_address ea root % 4 ≡ 0
second_aligned ea root = omega arith

fails_apart : {A : Type 0} (cause : Cause) (p : ℕ) → Fails cause ≡ At p → A
fails_apart cause p h = absurd (cc h)

module _ (ram : ℕ → Bool) (v : View) (kind : Kind) (ea : ℕ) (tell : Teller) (is : IsOfData kind) (on : is_translated v ≡ true) where
  abbrev root_q : Question
  root_q = OfMemory (root_label kind) (root_address v ea) 4

  root_same : root_q ≡ root_asked v ea
  root_same = ap (λ (l : Label). OfMemory l (root_address v ea) 4) is.root

  second_same : (root : ℕ) → OfMemory (second_label kind) (second_address ea root) 4 ≡ second_asked ea root
  second_same root = ap (λ (l : Label). OfMemory l (second_address ea root) 4) is.second

  alone : (root : ℕ) (walk rest : List Entry) (end : Reached) → walk ≡ entry root_q root ∷ rest → rest ≡ [] → ((p : ℕ) → end ≡ At p → leads root ≡ false) → IsWalk v ea walk end
  alone root walk rest end w none ends = inr (inl (record {
    root = root;
    translated = on;
    walk_is = w ∙ ap (λ (q : Question). entry q root ∷ rest) root_same ∙ ap (λ (l : List Entry). entry (root_asked v ea) root ∷ l) none;
    ends = ends;
  }))

  no_leading : (root : ℕ) → is_invalid root ≡ true → leads root ≡ false
  no_leading root h = ap (λ (b : Bool). not b && is_pointer root) h

  no_pointer : (root : ℕ) → is_pointer root ≡ false → leads root ≡ false
  no_pointer root h = go (not (is_invalid root)) (is_pointer root) h
    where
      go : (b c : Bool) → c ≡ false → (b && c) ≡ false
      go true c h = h
      go false c h = refl

  leading : (root : ℕ) → is_invalid root ≡ false → is_pointer root ≡ true → leads root ≡ true
  leading root h k = ap (λ (b : Bool). not b && is_pointer root) h ∙ k

  deeper : (root : ℕ) (walk rest : List Entry) (end : Reached) → walk ≡ entry root_q root ∷ rest → is_invalid root ≡ false → is_pointer root ≡ true → answer_told tell (from_pointer ram v kind ea root) ≡ Does rest end → IsWalk v ea walk end
  unfolding from_pointer
  deeper root walk rest end w valid pointer h = go (is_in_ram ram (second_address ea root)) h
    where
      go : (b : Bool) → answer_told tell (if b then Ask (OfMemory (second_label kind) (second_address ea root) 4) (λ second. Done (second_end ram v kind ea second)) else Done (Fails (access_cause kind))) ≡ Does rest end → IsWalk v ea walk end
      go true h =
          let d = first_asked (OfMemory (second_label kind) (second_address ea root) 4) (λ second. Done (second_end ram v kind ea second)) tell rest end h in
          let none : [] ≡ d.1 = (same_done [] d.1 (second_end ram v kind ea (told_of (OfMemory (second_label kind) (second_address ea root) 4) d.0)) end d.3).0 in
          inr (inr (record {
            root = root;
            second = d.0;
            translated = on;
            walk_is = w ∙ ap (λ (q : Question). entry q root ∷ rest) root_same
                ∙ ap (λ (l : List Entry). entry (root_asked v ea) root ∷ l) (d.4 ∙ ap (λ (q : Question). entry q d.0 ∷ d.1) (second_same root) ∙ ap (λ (l : List Entry). entry (second_asked ea root) d.0 ∷ l) (sym none));
            leads_on = leading root valid pointer;
          }))
      go false h = let s = same_done [] rest (Fails (access_cause kind)) end h in alone root walk rest end w (sym s.0) (λ p at. fails_apart (access_cause kind) p (s.1 ∙ at))

  rooted : (root : ℕ) (walk rest : List Entry) (end : Reached) → walk ≡ entry root_q root ∷ rest → answer_told tell (from_root ram v kind ea root) ≡ Does rest end → IsWalk v ea walk end
  unfolding from_root
  rooted root walk rest end w h = go (is_invalid root) refl (is_pointer root) refl (is_reserved root) (is_unaligned root || is_closed v kind root) h
    where
      fault : (cause : Cause) → answer_told tell (Done (Fails cause)) ≡ Does rest end → IsWalk v ea walk end
      fault cause h = let s = same_done [] rest (Fails cause) end h in alone root walk rest end w (sym s.0) (λ p at. fails_apart cause p (s.1 ∙ at))

      go : (a : Bool) → is_invalid root ≡ a → (b : Bool) → is_pointer root ≡ b → (c d : Bool)
          → answer_told tell (if a then Done (Fails (page_cause kind)) else if b then (if c then Outside else from_pointer ram v kind ea root) else if d then Done (Fails (page_cause kind)) else Done (arrived ram kind (root / 2 ^ 20 * 2 ^ 22 + ea % 2 ^ 22))) ≡ Does rest end
          → IsWalk v ea walk end
      go true i b p c d h = fault (page_cause kind) h
      go false i true p true d h = absurd (cc h)
      go false i true p false d h = deeper root walk rest end w i p h
      go false i false p c true h = fault (page_cause kind) h
      go false i false p c false h =
          let s = same_done [] rest (arrived ram kind (root / 2 ^ 20 * 2 ^ 22 + ea % 2 ^ 22)) end h in
          alone root walk rest end w (sym s.0) (λ q at. no_pointer root p)

-- the walk of a data access
pub walk_is : (ram : ℕ → Bool) (v : View) (kind : Kind) (ea : ℕ) (tell : Teller) → IsOfData kind → (walk : List Entry) (end : Reached)
    → answer_told tell (translated ram v kind ea) ≡ Does walk end → ((e : Entry) → HasItem walk e → e.value < 2 ^ 32) → IsWalk v ea walk end
unfolding translated
walk_is ram v kind ea tell is walk end h small = go (is_translated v) refl (is_in_ram ram (root_address v ea)) h
  where
    question : Question
    question = OfMemory (root_label kind) (root_address v ea) 4

    go : (b : Bool) → is_translated v ≡ b → (c : Bool)
        → answer_told tell (if b then (if c then Ask question (λ root. from_root ram v kind ea root) else Done (Fails (access_cause kind))) else Done (arrived ram kind ea)) ≡ Does walk end
        → IsWalk v ea walk end
    go true e true h =
        let d = first_asked question (λ root. from_root ram v kind ea root) tell walk end h in
        let least : d.0 < 2 ^ 32 = small (entry question d.0) (subst (λ (l : List Entry). HasItem l (entry question d.0)) (sym d.4) (inl refl)) in
        rooted ram v kind ea tell is e d.0 walk d.1 end d.4 (ap (λ (n : ℕ). answer_told tell (from_root ram v kind ea n)) (sym (told_whole (root_label kind) (root_address v ea) d.0 (root_aligned v ea) least)) ∙ d.3)
    go true e false h = let s = same_done [] walk (Fails (access_cause kind)) end h in inl (record { walk_is = sym s.0; plain = λ p at. fails_apart (access_cause kind) p (s.1 ∙ at) })
    go false e c h = inl (record { walk_is = sym (same_done [] walk (arrived ram kind ea) end h).0; plain = λ p at. e })
