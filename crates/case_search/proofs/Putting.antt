-- Values of assignments, and assignments and domains of which one is replaced.
use Rattle.std.proofs.Common.{◌≡◌, ◌≢◌, ℕ, ◌^◌, ◌<◌, Bool, true, false, List, [], length, length-set, set, ◌⊎◌, inl, inr, ⊎_elim, refl, sym, ◌∙◌, subst, get_or, arith}
use Rattle.std.proofs.lemmas.Bool.{cases_lt}
use Rattle.std.proofs.lemmas.List.{get_or-set_same, get_or-set_other}
use Rattle.std.proofs.lemmas.List.Elements.{All-set}
use Rattle.dom_set.specs.Elements.{is_in}
use Rattle.fd_narrow.specs.Narrowing.{IsInside, domain_in}
use Rattle.fd_prob.specs.declared.problem.Assignment.{Assignment}
use Rattle.fd_prob.specs.declared.slot.Slot.{Slot}
use Rattle.fd_prob.specs.Order.{IsAssignment}
use Rattle.fd_prob.specs.Relations.{value_of}
use Rattle.fd_prob.specs.Slots.{slot_number}
use Rattle.fd_prob.proofs.Places.{place_below}
use Rattle.case_search.specs.Internal.Free.{put}

pub value_word : (x : Assignment) (s : Slot) → IsAssignment x → value_of x s < 2 ^ 32
value_word x s is = is.words (slot_number s) 0 (omega (arith, is.length, place_below s))

pub true_or_false : (b : Bool) → (b ≡ true) ⊎ (b ≡ false)
true_or_false true = inl refl
true_or_false false = inr refl

pub equal_or_not : (i n : ℕ) → (i ≡ n) ⊎ (i ≢ n)
equal_or_not i n = elim (cases_lt i n) [
  | inl below ↦ inr (λ e. omega (arith, below, e))
  | inr from ↦ elim (cases_lt n i) [
    | inl above ↦ inr (λ e. omega (arith, above, e))
    | inr to ↦ inl (omega (arith, from, to))
  ]
]

-- the value that was put, and the others
pub put_here : (x : Assignment) (s : Slot) (v : ℕ) → IsAssignment x → value_of (put x s v) s ≡ v
put_here x s v is = get_or-set_same x.values (slot_number s) v 0 (omega (arith, is.length, place_below s))

pub put_there : (x : Assignment) (s t : Slot) (v : ℕ) → slot_number t ≢ slot_number s → value_of (put x s v) t ≡ value_of x t
put_there x s t v ne = get_or-set_other x.values (slot_number s) (slot_number t) v 0 ne

pub put_word : (x : Assignment) (s : Slot) (v : ℕ) → v < 2 ^ 32 → IsAssignment x → IsAssignment (put x s v)
put_word x s v word is = record {
  length = length-set x.values (slot_number s) v ∙ is.length;
  words = All-set (λ u. u < 2 ^ 32) x.values (slot_number s) v word is.words;
}

-- the domains with another one in the place of a variable's
module _ (doms : List (List ℕ)) (s : Slot) (d : List ℕ) (long : length doms ≡ 14) where
  abbrev pub replaced : List (List ℕ)
  replaced = set doms (slot_number s) d

  here : domain_in replaced s ≡ d
  here = get_or-set_same doms (slot_number s) d [] (omega (arith, long, place_below s))

  there : (t : Slot) → slot_number t ≢ slot_number s → domain_in replaced t ≡ domain_in doms t
  there t ne = get_or-set_other doms (slot_number s) (slot_number t) d [] ne

  Member : Assignment → Slot → List ℕ → Type 0
  Member x t ds = is_in ds (value_of x t) ≡ true

  pub value_in : (x : Assignment) → IsInside replaced x → is_in d (value_of x s) ≡ true
  value_in x inside = subst (λ (ds : List ℕ). is_in ds (value_of x s) ≡ true) here (inside s)

  -- a variable at the same place
  at_s : (x : Assignment) (t : Slot) → slot_number t ≡ slot_number s → (ds : List (List ℕ)) → is_in (domain_in ds s) (value_of x s) ≡ true → is_in (domain_in ds t) (value_of x t) ≡ true
  at_s x t e ds h = let P : ℕ → Type 0 = λ n. is_in (get_or ds n []) (get_or x.values n 0) ≡ true in subst P (sym e) h

  pub put_in : (x : Assignment) → IsInside doms x → is_in d (value_of x s) ≡ true → IsInside replaced x
  put_in x inside new t = ⊎_elim
      (λ e. at_s x t e replaced (subst (λ (ds : List ℕ). is_in ds (value_of x s) ≡ true) (sym here) new))
      (λ ne. subst (λ (ds : List ℕ). is_in ds (value_of x t) ≡ true) (sym (there t ne)) (inside t))
      (equal_or_not (slot_number t) (slot_number s))

  pub put_out : (x : Assignment) → IsInside replaced x → is_in (domain_in doms s) (value_of x s) ≡ true → IsInside doms x
  put_out x inside old t = ⊎_elim
      (λ e. at_s x t e doms old)
      (λ ne. subst (λ (ds : List ℕ). is_in ds (value_of x t) ≡ true) (there t ne) (inside t))
      (equal_or_not (slot_number t) (slot_number s))
