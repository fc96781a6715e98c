-- That a known old CSR value stands in the values leaves the order of candidates as it is.
use Rattle.std.proofs.Common.{◌≡◌, ℕ, suc, ◌<◌, ◌⊎◌, if◌then◌else◌, Bool, true, false, eqb, List, [], ◌∷◌, Option, Some, None, refl, sym, ap, ◌∙◌, subst, inl, inr, arith}
use Rattle.std.proofs.lemmas.Bool.{cases_Bool, eqb-true, eq-eqb}
use Rattle.std.proofs.lemmas.Option.{same_Some}
use Rattle.rv_isa.specs.declared.instruction.Instr.{Instr}
use Rattle.rv_isa.specs.Encoding.{word_of}
use Rattle.rv_isa.proofs.Cuts.{same_instr}
use Rattle.rv_script.specs.Lists.{HasItem}
use Rattle.rv_script.specs.Script.{Label, Label.FetchRoot, Label.FetchSecond, Label.Fetched, Label.FromRs1, Label.FromRs2, Label.FromCsr, Label.DataRoot, Label.DataSecond, Label.DataWord, Label.FromVector, Question, place_of, told as told_of, Script, Script.Ask, Script.Outside, Script.Done}
use Rattle.rv_script.specs.Folds.{Known, Teller, Answer.Does, Entry}
use Rattle.rv_hart.specs.Machine.{script}
use Rattle.tpl_ast.specs.declared.template.Atom.{Atom}
use Rattle.fd_prob.specs.declared.slot.Slot.{Slot}
use Rattle.fd_prob.specs.declared.slot.Slot.TheVariants as slots
use Rattle.fd_prob.specs.Order.{rank}
use Rattle.rv_isa.specs.Numbers.{op_numbered}
use Rattle.fd_prob.specs.Slots.{slot_number}
use Rattle.fd_prob.proofs.Places.{same_slot}
use Rattle.rv_script.specs.Labels.{Between, label_of, label_number, question_number}
use Rattle.rv_script.specs.Logs.{answer_told, by_answers, entry_label, entry_place, if_new, labelled, new_value, or_given}
use Rattle.leaf_link.specs.Turns.{Turn}
use Rattle.leaf_link.specs.Values.{Values, given_by, instr_in, old_csr, unasked_csr}
use Rattle.leaf_link.specs.Candidates.{IsCandidate}
use Rattle.leaf_link.specs.Ways.{IsFetched}
use Rattle.leaf_link.specs.Problems.{key_of}
use Rattle.leaf_link.specs.Firsts.{Precedes, is_nearer, leaf_pivot}
use Rattle.leaf_link.specs.Started.{OrderIsKept, started_key}
use Rattle.leaf_link.proofs.Numbers.{same_op}
use Rattle.rv_script.proofs.Plays.{first_asked, no_label, numbers_within, told}
use Rattle.rv_hart.proofs.Forms.{script_between}
use Rattle.leaf_link.proofs.Front.{same_done, settled}
use Rattle.leaf_link.proofs.Links.{candidate_good}

-- THE QUESTION FOR A CSR
pub SameAsked : Option Entry → Option Entry → Type 0
SameAsked None None = Unit {0}
SameAsked (Some e) (Some f) = e.question ≡ f.question
SameAsked None (Some f) = ⊥
SameAsked (Some e) None = ⊥

-- two plays of a script whose tellers agree on what is asked before it ask for the same CSR, or both for none
same_asked : {A : Type 0} (n : ℕ) (s : Script A) (t u : Teller) (l k : List Entry) (a b : A) → Between n 10 s → ((q : Question) → question_number q < 5 → t q ≡ u q) → answer_told t s ≡ Does l a → answer_told u s ≡ Does k b
    → SameAsked (labelled l FromCsr) (labelled k FromCsr)
unfolding SameAsked
same_asked n (Done c) t u l k a b between agree h j =
    let x = (same_done [] l c a h).0 in
    let y = (same_done [] k c b j).0 in
    subst (λ (z : List Entry). SameAsked (labelled z FromCsr) (labelled k FromCsr)) x (subst (λ (z : List Entry). SameAsked None (labelled z FromCsr)) y tt)
same_asked n Outside t u l k a b between agree h j = absurd (cc)
same_asked n (Ask q next) t u l k a b between agree h j =
    let x = first_asked q next t l a h in
    let y = first_asked q next u k b j in
    let e : Entry = record { question = q; value = x.0 } in
    let f : Entry = record { question = q; value = y.0 } in
    subst (λ (z : List Entry). SameAsked (labelled z FromCsr) (labelled k FromCsr)) (sym x.4) (subst (λ (z : List Entry). SameAsked (labelled (e ∷ x.1) FromCsr) (labelled z FromCsr)) (sym y.4)
    (elim (cases_Bool (eqb (question_number q) 5)) [
      | inl here ↦ subst (λ (c : Bool). SameAsked (if c then Some e else labelled x.1 FromCsr) (if c then Some f else labelled y.1 FromCsr)) (sym here) refl
      | inr past ↦ subst (λ (c : Bool). SameAsked (if c then Some e else labelled x.1 FromCsr) (if c then Some f else labelled y.1 FromCsr)) (sym past) (elim (cases_Bool (Rattle.std.specs.Prelude.nat_lt (question_number q) 5)) [
        | inl early ↦
            let less : question_number q < 5 = Rattle.std.proofs.lemmas.Bool.ltb-true (question_number q) 5 early in
            let v : x.0 ≡ y.0 = same_Some x.0 y.0 (sym x.2 ∙ agree q less ∙ y.2) in
            same_asked (suc (question_number q)) (next (told_of q x.0)) t u x.1 y.1 a b (between.3 (told_of q x.0)) agree x.3 (ap (λ (w : ℕ). answer_told u (next (told_of q w))) v ∙ y.3)
        | inr late ↦
            let more : 5 < question_number q = beyond (question_number q) past late in
            let one = no_label x.1 FromCsr (suc (question_number q)) (λ g i. (numbers_within (suc (question_number q)) 10 (next (told_of q x.0)) t x.1 a (between.3 (told_of q x.0)) x.3 g i).0) (omega (arith, more)) in
            let two = no_label y.1 FromCsr (suc (question_number q)) (λ g i. (numbers_within (suc (question_number q)) 10 (next (told_of q y.0)) u y.1 b (between.3 (told_of q y.0)) y.3 g i).0) (omega (arith, more)) in
            subst (λ (o : Option Entry). SameAsked o (labelled y.1 FromCsr)) (sym one) (subst (λ (o : Option Entry). SameAsked None o) (sym two) tt)
      ])
    ]))
  where
    beyond : (m : ℕ) → eqb m 5 ≡ false → Rattle.std.specs.Prelude.nat_lt m 5 ≡ false → 5 < m
    beyond m p l = grind (arith, Rattle.std.proofs.lemmas.Bool.Decides.nat_tests)

has_labelled : (log : List Entry) (l : Label) (e : Entry) → labelled log l ≡ Some e → HasItem log e
has_labelled [] l e h = absurd (cc)
has_labelled (x ∷ log) l e h = elim (cases_Bool (eqb (label_number (entry_label x)) (label_number l))) [
  | inl here ↦ inl (let z : Some x ≡ Some e = sym (ap (λ (b : Bool). if b then Some x else labelled log l) here) ∙ h in cc)
  | inr past ↦ inr (has_labelled log l e (sym (ap (λ (b : Bool). if b then Some x else labelled log l) past) ∙ h))
]

-- OLD VALUES OF TWO CANDIDATES
abbrev Alike : Values → Values → Values → Values → Type 0
Alike x y x' y' = ((x slots.OldCsr ≡ y slots.OldCsr) × (x' slots.OldCsr ≡ y' slots.OldCsr)) ⊎ ((x' slots.OldCsr ≡ x slots.OldCsr) × (y' slots.OldCsr ≡ y slots.OldCsr))

same_label : (x y : Values) → ((r : Slot) → slot_number r < 12 → x r ≡ y r) → (l : Label) → label_number l < 5 → given_by x l ≡ given_by y l
same_label x y h FetchRoot less = h slots.FirstPte (omega arith)
same_label x y h FetchSecond less = h slots.SecondPte (omega arith)
same_label x y h Fetched less = ap word_of (same_instr (instr_in x) (instr_in y) (ap op_numbered (h slots.Op (omega arith))) (h slots.Rd (omega arith)) (h slots.Rs1 (omega arith)) (h slots.Rs2 (omega arith)) (h slots.Imm (omega arith)) (h slots.Csr (omega arith)))
same_label x y h FromRs1 less = h slots.A (omega arith)
same_label x y h FromRs2 less = h slots.B (omega arith)
same_label x y h FromCsr less = absurd (omega (arith, less))
same_label x y h DataRoot less = absurd (omega (arith, less))
same_label x y h DataSecond less = absurd (omega (arith, less))
same_label x y h DataWord less = absurd (omega (arith, less))
same_label x y h FromVector less = absurd (omega (arith, less))

told_known : (o : Option ℕ) (given n v : ℕ) → o ≡ Some n → or_given o given ≡ Some v → n ≡ v
told_known (Some m) given n v h k = same_Some n v (sym h ∙ k)
told_known None given n v h k = absurd (cc)

alike : (t : Turn) (walk : List Entry) (pa : ℕ) (leaf : List Atom) → IsFetched t walk pa → (one two : Known) (v : IsCandidate t leaf one) (w : IsCandidate t leaf two)
    → ((r : Slot) → slot_number r < 12 → key_of t leaf one v r ≡ key_of t leaf two w r) → Alike (key_of t leaf one v) (key_of t leaf two w) (started_key t leaf one v) (started_key t leaf two w)
unfolding candidate_good SameAsked
alike t walk pa leaf f one two v w h =
    let kv : Values = key_of t leaf one v in
    let kw : Values = key_of t leaf two w in
    let gv = candidate_good t leaf one v (settled t walk pa f) in
    let gw = candidate_good t leaf two w (settled t walk pa f) in
    let agree : (q : Question) → question_number q < 5 → by_answers t.known (given_by kv) q ≡ by_answers t.known (given_by kw) q = λ q less. ap (λ (n : ℕ). or_given (t.known (place_of q)) n) (same_label kv kw h (label_of q) less) in
    let asked = same_asked 0 (script t.fixed) (by_answers t.known (given_by kv)) (by_answers t.known (given_by kw)) v.log w.log v.change w.change (script_between t.fixed) agree gv.plays gw.plays in
    let instr : v.instr ≡ w.instr = same_instr v.instr w.instr (same_op v.instr.op w.instr.op (h slots.Op (omega arith))) (h slots.Rd (omega arith)) (h slots.Rs1 (omega arith)) (h slots.Rs2 (omega arith)) (h slots.Imm (omega arith)) (h slots.Csr (omega arith)) in
    go (labelled v.log FromCsr) (labelled w.log FromCsr) instr asked
    (λ e q. told (script t.fixed) (by_answers t.known (given_by kv)) v.log v.change gv.plays e (has_labelled v.log FromCsr e q))
    (λ e q. told (script t.fixed) (by_answers t.known (given_by kw)) w.log w.change gw.plays e (has_labelled w.log FromCsr e q)) refl refl
  where
    by_place : (e g : Entry) (o : Option ℕ) → t.known (entry_place e) ≡ o → e.question ≡ g.question → (a b : ℕ) → or_given (t.known (entry_place e)) a ≡ Some e.value → or_given (t.known (entry_place g)) b ≡ Some g.value
        → ((e.value ≡ g.value) × (new_value t.known (Some e) ≡ new_value t.known (Some g))) ⊎ ((new_value t.known (Some e) ≡ e.value) × (new_value t.known (Some g) ≡ g.value))
    by_place e g (Some n) k q a b x y =
        let k' : t.known (entry_place g) ≡ Some n = ap (λ (z : Question). t.known (place_of z)) (sym q) ∙ k in
        inl (sym (told_known (t.known (entry_place e)) a n e.value k x) ∙ told_known (t.known (entry_place g)) b n g.value k' y, ap (λ (o : Option ℕ). if_new o e.value) k ∙ sym (ap (λ (o : Option ℕ). if_new o g.value) k'))
    by_place e g None k q a b x y = inr (ap (λ (o : Option ℕ). if_new o e.value) k, ap (λ (o : Option ℕ). if_new o g.value) (ap (λ (z : Question). t.known (place_of z)) (sym q) ∙ k))

    go : (o p : Option Entry) → v.instr ≡ w.instr → SameAsked o p → ((e : Entry) → labelled v.log FromCsr ≡ Some e → by_answers t.known (given_by (key_of t leaf one v)) e.question ≡ Some e.value)
        → ((e : Entry) → labelled w.log FromCsr ≡ Some e → by_answers t.known (given_by (key_of t leaf two w)) e.question ≡ Some e.value) → labelled v.log FromCsr ≡ o → labelled w.log FromCsr ≡ p
        → ((old_csr t.fixed v.instr (labelled v.log FromCsr) ≡ old_csr t.fixed w.instr (labelled w.log FromCsr)) × (new_value t.known (labelled v.log FromCsr) ≡ new_value t.known (labelled w.log FromCsr)))
        ⊎ ((new_value t.known (labelled v.log FromCsr) ≡ old_csr t.fixed v.instr (labelled v.log FromCsr)) × (new_value t.known (labelled w.log FromCsr) ≡ old_csr t.fixed w.instr (labelled w.log FromCsr)))
    go None None i s x y ov ow = inl (ap (λ (z : Option Entry). old_csr t.fixed v.instr z) ov ∙ ap (λ (z : Instr). unasked_csr t.fixed z) i ∙ sym (ap (λ (z : Option Entry). old_csr t.fixed w.instr z) ow), ap (λ (z : Option Entry). new_value t.known z) ov ∙ sym (ap (λ (z : Option Entry). new_value t.known z) ow))
    go (Some e) (Some g) i s x y ov ow = elim (by_place e g (t.known (entry_place e)) refl s (given_by (key_of t leaf one v) (label_of e.question)) (given_by (key_of t leaf two w) (label_of g.question)) (x e ov) (y g ow)) [
      | inl r ↦ inl (ap (λ (z : Option Entry). old_csr t.fixed v.instr z) ov ∙ r.0 ∙ sym (ap (λ (z : Option Entry). old_csr t.fixed w.instr z) ow), ap (λ (z : Option Entry). new_value t.known z) ov ∙ r.1 ∙ sym (ap (λ (z : Option Entry). new_value t.known z) ow))
      | inr r ↦ inr (ap (λ (z : Option Entry). new_value t.known z) ov ∙ r.0 ∙ sym (ap (λ (z : Option Entry). old_csr t.fixed v.instr z) ov), ap (λ (z : Option Entry). new_value t.known z) ow ∙ r.1 ∙ sym (ap (λ (z : Option Entry). old_csr t.fixed w.instr z) ow))
    ]
    go None (Some g) i s x y ov ow = absurd s
    go (Some e) None i s x y ov ow = absurd s

-- ORDER
abbrev Off : Values → Values → Type 0
Off x x' = (r : Slot) → (slot_number r ≡ 12 → ⊥) → x' r ≡ x r

nearer_same : (t : Turn) (pa : ℕ) (leaf : List Atom) (draws : List ℕ) (x y x' y' : Values) (s : Slot) → x' slots.Op ≡ x slots.Op → x' s ≡ x s → y' s ≡ y s → is_nearer t pa leaf draws x y s → is_nearer t pa leaf draws x' y' s
nearer_same t pa leaf draws x y x' y' s o a b h =
    let P : ℕ → ℕ = λ n. leaf_pivot t pa leaf draws (op_numbered n) s in
    subst (λ (n : ℕ). rank (P n) (x' s) < rank (P n) (y' s)) (sym o) (subst (λ (n : ℕ). rank (P (x slots.Op)) n < rank (P (x slots.Op)) (y' s)) (sym a) (subst (λ (n : ℕ). rank (P (x slots.Op)) (x s) < rank (P (x slots.Op)) n) (sym b) h))

not_12 : (n : ℕ) → eqb n 12 ≡ false → n ≡ 12 → ⊥
not_12 n h e = let z : eqb n 12 ≡ true = eq-eqb n 12 e in absurd (cc)

moved : (t : Turn) (pa : ℕ) (leaf : List Atom) (draws : List ℕ) (x y x' y' : Values) → Off x x' → Off y y' → (((r : Slot) → slot_number r < 12 → x r ≡ y r) → Alike x y x' y') → Precedes t pa leaf draws x y → Precedes t pa leaf draws x' y'
moved t pa leaf draws x y x' y' ox oy alikes b =
    let s : Slot = b.0 in
    let op : x' slots.Op ≡ x slots.Op = ox slots.Op (λ e. absurd (omega (arith, e))) in
    elim (cases_Bool (eqb (slot_number s) 12)) [
      | inl is ↦
          let e : slot_number s ≡ 12 = eqb-true (slot_number s) 12 is in
          let old : s ≡ slots.OldCsr = same_slot s slots.OldCsr e in
          elim (alikes (λ r less. b.1 r (omega (arith, e, less)))) [
            | inl same ↦
                let z : x s ≡ y s = subst (λ (r : Slot). x r ≡ y r) (sym old) same.0 in
                let near : rank (leaf_pivot t pa leaf draws (op_numbered (x slots.Op)) s) (y s) < rank (leaf_pivot t pa leaf draws (op_numbered (x slots.Op)) s) (y s) = subst (λ (n : ℕ). rank (leaf_pivot t pa leaf draws (op_numbered (x slots.Op)) s) n < rank (leaf_pivot t pa leaf draws (op_numbered (x slots.Op)) s) (y s)) z b.2 in
                absurd (never _ near)
            | inr own ↦ (
              s,
              λ r less. ox r (λ q. absurd (omega (arith, q, e, less))) ∙ b.1 r less ∙ sym (oy r (λ q. absurd (omega (arith, q, e, less)))),
              nearer_same t pa leaf draws x y x' y' s op (subst (λ (r : Slot). x' r ≡ x r) (sym old) own.0) (subst (λ (r : Slot). y' r ≡ y r) (sym old) own.1) b.2,
            )
          ]
      | inr isnt ↦ (
        s,
        λ r less. elim (cases_Bool (eqb (slot_number r) 12)) [
          | inl is ↦
              let e : slot_number r ≡ 12 = eqb-true (slot_number r) 12 is in
              let old : r ≡ slots.OldCsr = same_slot r slots.OldCsr e in
              let here : x slots.OldCsr ≡ y slots.OldCsr = b.1 slots.OldCsr (omega (arith, e, less)) in
              subst (λ (q : Slot). x' q ≡ y' q) (sym old) (elim (alikes (λ q early. b.1 q (omega (arith, e, less, early)))) [ inl same ↦ same.1 | inr own ↦ own.0 ∙ here ∙ sym own.1 ])
          | inr other ↦ ox r (not_12 (slot_number r) other) ∙ b.1 r less ∙ sym (oy r (not_12 (slot_number r) other))
        ],
        nearer_same t pa leaf draws x y x' y' s op (ox s (not_12 (slot_number s) isnt)) (oy s (not_12 (slot_number s) isnt)) b.2,
      )
    ]
  where
    never : (n : ℕ) → n < n → ⊥
    never n h = omega (arith, h)

off_key : (t : Turn) (leaf : List Atom) (new : Known) (w : IsCandidate t leaf new) (r : Slot) → (slot_number r ≡ 12 → ⊥) → started_key t leaf new w r ≡ key_of t leaf new w r
off_key t leaf new w slots.OldCsr h = absurd (h refl)
off_key t leaf new w _ h = refl

swapped : (x y x' y' : Values) → Alike x y x' y' → Alike x' y' x y
swapped x y x' y' a = elim a [ inl r ↦ inl (r.1, r.0) | inr r ↦ inr (sym r.0, sym r.1) ]

pub order_is_kept : OrderIsKept
order_is_kept t walk pa leaf draws f one two v w =
    let kv : Values = key_of t leaf one v in
    let kw : Values = key_of t leaf two w in
    let sv : Values = started_key t leaf one v in
    let sw : Values = started_key t leaf two w in (
      λ b. moved t pa leaf draws kv kw sv sw (off_key t leaf one v) (off_key t leaf two w) (alike t walk pa leaf f one two v w) b,
      λ b. moved t pa leaf draws sv sw kv kw (λ r h. sym (off_key t leaf one v r h)) (λ r h. sym (off_key t leaf two w r h))
          (λ same. swapped kv kw sv sw (alike t walk pa leaf f one two v w (λ r less. sym (off_key t leaf one v r (λ e. absurd (omega (arith, e, less)))) ∙ same r less ∙ off_key t leaf two w r (λ e. absurd (omega (arith, e, less)))))) b,
    )
