-- For a free variable one value is as good as another.
use Rattle.std.proofs.Common.{◌≡◌, ℕ, ◌<◌, Bool, true, false, not, ◌||◌, List, get_or, slice_index, Option, Some, None, inl, inr, ⊎_elim, refl, sym, ap, ◌∙◌, subst}
use Rattle.std.proofs.lemmas.Bool.{false≢true}
use Rattle.std.proofs.lemmas.List.Sums.{AllPass-from_list_all, list_all-from_AllPass}
use Rattle.dom_set.specs.Elements.{is_in}
use Rattle.rv_isa.specs.declared.operation.Op.{Op}
use Rattle.fd_narrow.specs.Narrowing.{AllHold, IsInside, domain_in}
use Rattle.fd_prob.specs.declared.problem.Assignment.{Assignment}
use Rattle.fd_prob.specs.declared.problem.Case.{Case}
use Rattle.fd_prob.specs.declared.relation.Rel.{Rel}
use Rattle.fd_prob.specs.declared.slot.Slot.{Slot}
use Rattle.fd_prob.specs.Order.{IsAssignment, rank}
use Rattle.fd_prob.specs.Relations.{holds, value_of}
use Rattle.rv_isa.specs.Numbers.{op_numbered}
use Rattle.fd_prob.specs.Slots.{slot_number}
use Rattle.case_search.specs.Internal.Free.{IsFirstPassing, IsFree, IsSettled, own_hold, put}
use Rattle.case_search.specs.Search.{FixedBelow, IsCut, IsMet, LeastOrNone}
use Rattle.case_search.proofs.Putting.{equal_or_not, put_here, put_there, put_word, true_or_false}
use Rattle.fd_prob.specs.Mentions.{Agree, mentions}
use Rattle.fd_prob.proofs.Mentioning.{holds_same}
use Rattle.fd_prob.proofs.Places.{same_slot}
use Rattle.case_search.proofs.Searching.{found, members_same}

pub put_inside : (doms : List (List ℕ)) (x : Assignment) (s : Slot) (v : ℕ) → IsAssignment x → IsInside doms x → is_in (domain_in doms s) v ≡ true → IsInside doms (put x s v)
put_inside doms x s v is inside element t = ⊎_elim
    (λ e. let P : Slot → Type 0 = λ u. is_in (domain_in doms u) (value_of (put x s v) u) ≡ true in
    subst P (sym (same_slot t s e)) (subst (λ (w : ℕ). is_in (domain_in doms s) w ≡ true) (sym (put_here x s v is)) element))
    (λ ne. subst (λ (w : ℕ). is_in (domain_in doms t) w ≡ true) (sym (put_there x s t v ne)) (inside t))
    (equal_or_not (slot_number t) (slot_number s))

tested : (m h : Bool) → (m ≡ true → h ≡ true) → (not m || h) ≡ true
tested true h if_so = if_so refl
tested false h if_so = refl

told : (m h : Bool) → (not m || h) ≡ true → m ≡ true → h ≡ true
told true h is so = is
told false h is so = absurd (cc so)

module _ (c : Case) (doms : List (List ℕ)) (s : Slot) (free : IsFree doms s c.rels) (base : Assignment) (base_is : IsAssignment base) (base_in : IsInside doms base) where
  op : Op
  op = op_numbered c.op

  -- with one value for the variable, what is in the domains agrees on all that its relations look at
  agree_with : (y : Assignment) (v : ℕ) → IsInside doms y → value_of y s ≡ v → (r : Rel) → IsSettled doms s r → Agree r (put base s v) y
  agree_with y v inside is r settled t looks = ⊎_elim
      (λ e. let P : Slot → Type 0 = λ u. value_of (put base s v) u ≡ value_of y u in subst P (sym (same_slot t s e)) (put_here base s v base_is ∙ sym is))
      (λ ne. put_there base s t v ne ∙ members_same (domain_in doms t) (value_of base t) (value_of y t) (settled t looks ne) (base_in t) (inside t))
      (equal_or_not (slot_number t) (slot_number s))

  -- what meets the relations passes the test of its value
  pub passes : (y : Assignment) → IsMet c doms y → own_hold (op_numbered c.op) (put base s (value_of y s)) s c.rels ≡ true
  passes y met = list_all-from_AllPass (λ r. not (mentions r s) || holds (op_numbered c.op) (put base s (value_of y s)) r) c.rels
      (λ k d lt. let r : Rel = get_or c.rels k d in
      tested (mentions r s) (holds (op_numbered c.op) (put base s (value_of y s)) r)
      (λ looks. holds_same (op_numbered c.op) r (put base s (value_of y s)) y (agree_with y (value_of y s) met.inside refl r (free k d lt looks)) ∙ met.holding k d lt))

  -- with a value that passes all relations hold, if they do with another
  moved_holds : (y : Assignment) (v : ℕ) → IsMet c doms y → is_in (domain_in doms s) v ≡ true → own_hold (op_numbered c.op) (put base s v) s c.rels ≡ true → AllHold (op_numbered c.op) c.rels (put y s v)
  moved_holds y v met element own k d lt =
      let r : Rel = get_or c.rels k d in
      let y' : Assignment = put y s v in
      let mine = AllPass-from_list_all (λ q. not (mentions q s) || holds (op_numbered c.op) (put base s v) q) c.rels own k d lt in
      elim (true_or_false (mentions r s)) [
        | inl looks ↦
            let inside : IsInside doms y' = put_inside doms y s v met.words met.inside element in
            sym (holds_same (op_numbered c.op) r (put base s v) y' (agree_with y' v inside (put_here y s v met.words) r (free k d lt looks))) ∙ told (mentions r s) (holds (op_numbered c.op) (put base s v) r) mine looks
        | inr blind ↦
            let apart : Agree r y' y = λ t looks. put_there y s t v (λ e. false≢true (sym blind ∙ ap (mentions r) (sym (same_slot t s e)) ∙ looks)) in
            holds_same (op_numbered c.op) r y' y apart ∙ met.holding k d lt
      ]

  module _ (v : ℕ) (cut : List (List ℕ)) (cuts : IsCut c doms s v cut) (element : is_in (domain_in doms s) v ≡ true) (own : own_hold (op_numbered c.op) (put base s v) s c.rels ≡ true) where
    moved : (y : Assignment) → IsMet c doms y → IsMet c cut (put y s v)
    moved y met =
        let holding = moved_holds y v met element own in
        record {
          words = put_word y s v cuts.word met.words;
          inside = cuts.keeps (put y s v) (put_inside doms y s v met.words met.inside element) (put_here y s v met.words) holding;
          holding = holding;
        }

    -- the answer with the first value that passes is the answer
    pub free_least : (ps : List ℕ) → FixedBelow doms (slot_number s) → ((w : ℕ) → is_in (domain_in doms s) w ≡ true → rank (slice_index ps (slot_number s)) w < rank (slice_index ps (slot_number s)) v → own_hold (op_numbered c.op) (put base s w) s c.rels ≡ false) → (o : Option Assignment) → LeastOrNone ps (IsMet c cut) o → LeastOrNone ps (IsMet c doms) o
    free_least ps fixed first None none = λ y met. none (put y s v) (moved y met)
    free_least ps fixed first (Some x) best = found c doms s v cut cuts ps (λ y met less. false≢true (sym (first (value_of y s) (met.inside s) less) ∙ passes y met)) fixed x best

  -- where no value passes nothing meets the relations
  pub free_none : ((w : ℕ) → is_in (domain_in doms s) w ≡ true → own_hold (op_numbered c.op) (put base s w) s c.rels ≡ false) → (y : Assignment) → IsMet c doms y → ⊥
  free_none none y met = false≢true (sym (none (value_of y s) (met.inside s)) ∙ passes y met)

-- the same where the code has the parts of the case by other names
module _ (c : Case) (doms : List (List ℕ)) (s : Slot) (n : ℕ) (place : slot_number s ≡ n) (ps : List ℕ) (op : Op) (op_is : op ≡ op_numbered c.op) (rels : List Rel) (rels_is : rels ≡ c.rels) (domain : List ℕ) (domain_is : domain ≡ domain_in doms s) (base : Assignment) (base_is : IsAssignment base) (base_in : IsInside doms base) (free : IsFree doms s rels) where
  free_here : IsFree doms s c.rels
  free_here = subst (IsFree doms s) rels_is free

  abbrev pub First : Op → List Rel → List ℕ → ℕ → Option ℕ → Type 0
  First o rs xs m r = IsFirstPassing (λ w. own_hold o (put base s w) s rs) xs (slice_index ps m) r

  first_here : (r : Option ℕ) → First op rels domain n r → First (op_numbered c.op) c.rels (domain_in doms s) (slot_number s) r
  first_here r first =
      let of_op : First (op_numbered c.op) rels domain n r = subst (λ (o : Op). First o rels domain n r) op_is first in
      let of_rels : First (op_numbered c.op) c.rels domain n r = subst (λ (rs : List Rel). First (op_numbered c.op) rs domain n r) rels_is of_op in
      let of_domain : First (op_numbered c.op) c.rels (domain_in doms s) n r = subst (λ (xs : List ℕ). First (op_numbered c.op) c.rels xs n r) domain_is of_rels in
      subst (λ (m : ℕ). First (op_numbered c.op) c.rels (domain_in doms s) m r) (sym place) of_domain

  pub free_least_at : (v : ℕ) → First op rels domain n (Some v) → (start cut : List (List ℕ)) → start ≡ doms → IsCut c start s v cut → FixedBelow doms n → (o : Option Assignment) → LeastOrNone ps (IsMet c cut) o → LeastOrNone ps (IsMet c doms) o
  free_least_at v first start cut start_is cuts fixed o least =
      let here = first_here (Some v) first in
      let cuts_here : IsCut c doms s v cut = subst (λ (ds : List (List ℕ)). IsCut c ds s v cut) start_is cuts in
      free_least c doms s free_here base base_is base_in v cut cuts_here here.0 here.1 ps (subst (FixedBelow doms) (sym place) fixed) here.2 o least

  pub free_none_at : First op rels domain n None → (y : Assignment) → IsMet c doms y → ⊥
  free_none_at none = free_none c doms s free_here base base_is base_in (first_here None none)
