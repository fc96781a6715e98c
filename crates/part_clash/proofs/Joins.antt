-- The lesser of two least clashes is the least of both.
use Rattle.std.proofs.Common.{◌≡◌, ◌⊎◌, inl, inr, Option, Some, None, sym, subst}
use Rattle.std.specs.Option.{IfSome, IfNone}
use Rattle.foot_map.specs.declared.clash.Clash.{Clash}
use Rattle.foot_map.specs.Races.{IsNotAfter}
use Rattle.part_clash.specs.Internal.Parts.{IsLeastWith}
use Rattle.part_clash.proofs.Orders.{not_after_both}

-- the same property in other words
pub least_same : (P R : Clash → Type 0) (o : Option Clash) → ((c : Clash) → R c → P c) → ((c : Clash) → P c → R c) → IsLeastWith P o → IsLeastWith R o
least_same P R None back to least = λ c r. least c (back c r)
least_same P R (Some c) back to least = (to c least.0, λ d r. least.1 d (back d r))

-- from clauses on each answer
pub least_of : (P : Clash → Type 0) (o : Option Clash) → IfNone o ((c : Clash) → P c → ⊥) → IfSome o P → IfSome o (λ c. (d : Clash) → P d → IsNotAfter c d) → IsLeastWith P o
least_of P None none some first = none
least_of P (Some c) none some first = (some, first)

-- the answer has the property
has_it : (P : Clash → Type 0) (o : Option Clash) (c : Clash) → IsLeastWith P o → Some c ≡ o → P c
has_it P o c least is = let here : IsLeastWith P (Some c) = subst (IsLeastWith P) (sym is) least in here.0

-- what is not after the answer is not after any other
before_all : (P : Clash → Type 0) (o : Option Clash) (c : Clash) → IsLeastWith P o → IfSome o (IsNotAfter c) → (d : Clash) → P d → IsNotAfter c d
before_all P None c least upto d p = absurd (least d p)
before_all P (Some e) c least upto d p = not_after_both c e d upto (least.1 d p)

-- of two properties, the lesser answer is that of either one
pub least_of_both : (P Q R : Clash → Type 0) (a b o : Option Clash)
    → ((c : Clash) → R c → P c ⊎ Q c) → ((c : Clash) → P c → R c) → ((c : Clash) → Q c → R c)
    → IsLeastWith P a → IsLeastWith Q b
    → (o ≡ a) ⊎ (o ≡ b) → IfSome o (λ c. IfSome a (IsNotAfter c) × IfSome b (IsNotAfter c)) → IfNone o ((a ≡ None) × (b ≡ None))
    → IsLeastWith R o
least_of_both P Q R a b None split p q la lb one upto none = λ c r. elim (split c r) [
  | inl x ↦ (let here : IsLeastWith P None = subst (IsLeastWith P) none.0 la in here c x)
  | inr y ↦ (let here : IsLeastWith Q None = subst (IsLeastWith Q) none.1 lb in here c y)
]
least_of_both P Q R a b (Some c) split p q la lb one upto none = (
  elim one [ inl is ↦ p c (has_it P a c la is) | inr is ↦ q c (has_it Q b c lb is) ],
  λ d r. elim (split d r) [
    | inl x ↦ before_all P a c la upto.0 d x
    | inr y ↦ before_all Q b c lb upto.1 d y
  ],
)
