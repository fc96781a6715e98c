-- Where nothing is left without the relations that look at a variable, no value of the variable helps.
use Rattle.std.proofs.Common.{◌≡◌, ℕ, ◌<◌, true, false, List, [], ◌∷◌, ◌++◌, All, IsTrue, length, get_or, Option, Some, None, is_some, not, Bool, refl, sym, ap, ◌∙◌, subst}
use Rattle.std.proofs.lemmas.Bool.{false≢true}
use Rattle.std.proofs.lemmas.List.Elements.{All-nil, All-push}
use Rattle.dom_set.specs.Elements.{is_in}
use Rattle.rv_isa.specs.declared.operation.Op.{Op}
use Rattle.fd_narrow.specs.Narrowing.{AllHold, IsInside, domain_in}
use Rattle.fd_prob.specs.declared.problem.Assignment.{Assignment}
use Rattle.fd_prob.specs.declared.problem.Case.{Case}
use Rattle.fd_prob.specs.declared.relation.Rel.{Rel}
use Rattle.fd_prob.specs.declared.slot.Slot.{Slot}
use Rattle.fd_prob.specs.Relations.{holds}
use Rattle.rv_isa.specs.Numbers.{op_numbered}
use Rattle.case_search.specs.Internal.Easier.{AreBlind, IsEasier}
use Rattle.case_search.specs.Internal.Free.{put}
use Rattle.case_search.specs.Search.{IsCut, IsMet}
use Rattle.fd_prob.proofs.Places.{same_slot}
use Rattle.case_search.proofs.Freedom.{put_inside}
use Rattle.fd_prob.specs.Mentions.{Agree, mentions}
use Rattle.fd_prob.proofs.Mentioning.{holds_same}
use Rattle.case_search.proofs.Putting.{put_here, put_there, put_word}

pub none_blind : (s : Slot) (rels : List Rel) → AreBlind s rels []
none_blind s rels = record { blind = All-nil (λ r. mentions r s ≡ false); fewer = λ op x all. All-nil (λ r. IsTrue (holds op x r)) }

pub one_blind : (s : Slot) (rels blind : List Rel) (i : ℕ) (r : Rel) → i < length rels → r ≡ get_or rels i r → mentions r s ≡ false → AreBlind s rels blind → AreBlind s rels (blind ++ r ∷ [])
one_blind s rels blind i r lt is blind_r before = record {
  blind = All-push (λ q. mentions q s ≡ false) blind r before.blind blind_r;
  fewer = λ op x all. All-push (λ q. IsTrue (holds op x q)) blind r (before.fewer op x all) (subst (λ (q : Rel). IsTrue (holds op x q)) (sym is) (all i r lt));
}

-- relations that don't look at the variable hold with another value of it
moved : (op : Op) (s : Slot) (v : ℕ) (y : Assignment) (rels : List Rel) → All (λ r. mentions r s ≡ false) rels → AllHold op rels y → AllHold op rels (put y s v)
moved op s v y rels blind holding k d lt =
    let r : Rel = get_or rels k d in
    let apart : Agree r (put y s v) y = λ t looks. put_there y s t v (λ e. false≢true (sym (blind k d lt) ∙ ap (mentions r) (sym (same_slot t s e)) ∙ looks)) in
    holds_same op r (put y s v) y apart ∙ holding k d lt

pub left_at_once : (c easier : Case) (doms start : List (List ℕ)) (s : Slot) (v : ℕ) (cut : List (List ℕ)) → IsEasier s c easier → start ≡ doms → IsCut easier start s v cut → is_in (domain_in doms s) v ≡ true → ((y : Assignment) → IsMet easier cut y → ⊥) → (y : Assignment) → IsMet c doms y → ⊥
left_at_once c easier doms start s v cut is start_is cuts element none y met =
    let y' : Assignment = put y s v in
    let inside : IsInside doms y' = put_inside doms y s v met.words met.inside element in
    let before : AllHold (op_numbered c.op) easier.rels y = is.rels.fewer (op_numbered c.op) y met.holding in
    let after : AllHold (op_numbered c.op) easier.rels y' = moved (op_numbered c.op) s v y easier.rels is.rels.blind before in
    let holding : AllHold (op_numbered easier.op) easier.rels y' = subst (λ (n : ℕ). AllHold (op_numbered n) easier.rels y') (sym is.op) after in
    none y' (record {
      words = put_word y s v cuts.word met.words;
      inside = cuts.keeps y' (subst (λ (ds : List (List ℕ)). IsInside ds y') (sym start_is) inside) (put_here y s v met.words) holding;
      holding = holding;
    })

pub left_none : (o : Option Assignment) (none : Bool) → is_some o ≡ not none → none ≡ true → o ≡ None
left_none None b is h = refl
left_none (Some x) true is h = absurd (cc is)
left_none (Some x) false is h = absurd (cc h)
