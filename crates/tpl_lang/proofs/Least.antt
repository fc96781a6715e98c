-- The least kind of fault of a statement.
use Rattle.std.proofs.Common.{◌≡◌, ℕ, zero, suc, ◌+◌, ◌-◌, ◌≤◌, Bool, true, false, not, cond, ◌&&◌, ◌||◌, List, [], ◌∷◌, get_or, Option, Some, None, option_map, refl, sym, ap, ◌∙◌, ◌⊎◌, inl, inr, subst, arith}
use Rattle.tpl_lang.specs.declared.fault.Kind.{Kind}
use Rattle.tpl_lang.specs.declared.fault.Kind.TheVariants as kinds
use Rattle.tpl_lang.specs.Faults.{is_name_twice, is_phrase_above, is_phrase_long, allows, is_bad_ram, is_bad_start, is_deep, is_double, is_empty, is_last, is_long, is_unknown, passes_count}
use Rattle.tpl_lang.specs.Kinds.{fault_of, kind_number}
use Rattle.tpl_lang.specs.Laws.{LeastKindIsTold, has_fault}
use Rattle.tpl_lang.specs.Known.{Known}
use Rattle.tpl_lang.specs.Phrases.{Phrase}

-- the place of the first test that is true
abbrev first_true : List Bool → Option ℕ
first_true [] = None
first_true (true ∷ bs) = Some 0
first_true (false ∷ bs) = option_map suc (first_true bs)

-- what is first is true, and nothing before it is
record IsFirst (bs : List Bool) (n : ℕ) : Type 0 where
  here : get_or bs n false ≡ true
  below : (m : ℕ) → get_or bs m false ≡ true → n ≤ m

later : (bs : List Bool) (i : ℕ) → IsFirst bs i → (m : ℕ) → get_or (false ∷ bs) m false ≡ true → suc i ≤ m
later bs i first zero h = absurd (cc h)
later bs i first (suc m) h = let le : i ≤ m = first.below m h in omega (arith, le)

behind : (bs : List Bool) (o : Option ℕ) (n : ℕ) → ((i : ℕ) → o ≡ Some i → IsFirst bs i) → option_map suc o ≡ Some n → IsFirst (false ∷ bs) n
behind bs None n rest is = absurd (cc is)
behind bs (Some i) n rest is =
    let first : IsFirst bs i = rest i refl in
    let at : suc i ≡ n = cc is in
    subst (IsFirst (false ∷ bs)) at (record { here = first.here; below = later bs i first })

first_is : (bs : List Bool) (n : ℕ) → first_true bs ≡ Some n → IsFirst bs n
first_is [] n is = absurd (cc is)
first_is (true ∷ bs) n is = let e : 0 ≡ n = cc is in subst (IsFirst (true ∷ bs)) e (record { here = refl; below = λ m h. omega arith })
first_is (false ∷ bs) n is = behind bs (first_true bs) n (λ i e. first_is bs i e) is

none_behind : (o : Option ℕ) → option_map suc o ≡ None → o ≡ None
none_behind None is = refl
none_behind (Some i) is = absurd (cc is)

none_true : (bs : List Bool) → first_true bs ≡ None → (m : ℕ) → get_or bs m false ≡ false
none_true [] is m = refl
none_true (true ∷ bs) is m = absurd (cc is)
none_true (false ∷ bs) is zero = refl
none_true (false ∷ bs) is (suc m) = none_true bs (none_behind (first_true bs) is) m

-- the kinds from the second on, by their places
abbrev kind_at : ℕ → Kind
kind_at zero = kinds.Unexpected
kind_at (suc zero) = kinds.NumberTooLarge
kind_at (suc (suc zero)) = kinds.UnknownName
kind_at (suc (suc (suc zero))) = kinds.DoubleName
kind_at (suc (suc (suc (suc zero)))) = kinds.NameTwiceInLeaf
kind_at (suc (suc (suc (suc (suc zero))))) = kinds.EmptyDomain
kind_at (suc (suc (suc (suc (suc (suc zero)))))) = kinds.TooDeep
kind_at (suc (suc (suc (suc (suc (suc (suc zero))))))) = kinds.TooLong
kind_at (suc (suc (suc (suc (suc (suc (suc (suc zero)))))))) = kinds.TooMany
kind_at (suc (suc (suc (suc (suc (suc (suc (suc (suc zero))))))))) = kinds.BadRam
kind_at _ = kinds.BadStart

as_tests : (a b c d e f g h i j l m : Bool) → cond a (Some kinds.Unexpected) (cond b (Some kinds.Unexpected) (cond c (Some kinds.NumberTooLarge) (cond d (Some kinds.UnknownName) (cond e (Some kinds.DoubleName) (cond f (Some kinds.NameTwiceInLeaf) (cond g (Some kinds.EmptyDomain) (cond h (Some kinds.TooDeep) (cond i (Some kinds.TooLong) (cond j (Some kinds.TooMany) (cond l (Some kinds.BadRam) (cond m (Some kinds.BadStart) None))))))))))) ≡ option_map kind_at (first_true ((a || b) ∷ c ∷ d ∷ e ∷ f ∷ g ∷ h ∷ i ∷ j ∷ l ∷ m ∷ []))
as_tests true b c d e f g h i j l m = refl
as_tests false true c d e f g h i j l m = refl
as_tests false false true d e f g h i j l m = refl
as_tests false false false true e f g h i j l m = refl
as_tests false false false false true f g h i j l m = refl
as_tests false false false false false true g h i j l m = refl
as_tests false false false false false false true h i j l m = refl
as_tests false false false false false false false true i j l m = refl
as_tests false false false false false false false false true j l m = refl
as_tests false false false false false false false false false true l m = refl
as_tests false false false false false false false false false false true m = refl
as_tests false false false false false false false false false false false true = refl
as_tests false false false false false false false false false false false false = refl

module _ (k : Known) (last : Bool) (p : Phrase) where
  abbrev tests : List Bool
  tests = (not (allows k p) || (last && not (is_last k p))) ∷ is_phrase_above p ∷ is_unknown k p ∷ is_double k p ∷ is_name_twice p ∷ is_empty k p ∷ is_deep k p ∷ is_long k p ∷ (is_phrase_long p || passes_count k p) ∷ is_bad_ram k p ∷ is_bad_start k p ∷ []

  fault_is : fault_of k last p ≡ option_map kind_at (first_true tests)
  unfolding fault_of
  fault_is = as_tests (not (allows k p)) (last && not (is_last k p)) (is_phrase_above p) (is_unknown k p) (is_double k p) (is_name_twice p) (is_empty k p) (is_deep k p) (is_long k p) (is_phrase_long p || passes_count k p) (is_bad_ram k p) (is_bad_start k p)

  -- the test of a kind from the second on stands at its number less 2
  record IsTest (kind : Kind) : Type 0 where
    from : 2 ≤ kind_number kind
    test : has_fault k last p kind ≡ get_or tests (kind_number kind - 2) false

  test_of : (kind : Kind) → (kind ≡ kinds.BadByte) ⊎ IsTest kind
  test_of kinds.BadByte = inl refl
  test_of kinds.Unexpected = inr (record { from = omega arith; test = refl })
  test_of kinds.NumberTooLarge = inr (record { from = omega arith; test = refl })
  test_of kinds.UnknownName = inr (record { from = omega arith; test = refl })
  test_of kinds.DoubleName = inr (record { from = omega arith; test = refl })
  test_of kinds.NameTwiceInLeaf = inr (record { from = omega arith; test = refl })
  test_of kinds.EmptyDomain = inr (record { from = omega arith; test = refl })
  test_of kinds.TooDeep = inr (record { from = omega arith; test = refl })
  test_of kinds.TooLong = inr (record { from = omega arith; test = refl })
  test_of kinds.TooMany = inr (record { from = omega arith; test = refl })
  test_of kinds.BadRam = inr (record { from = omega arith; test = refl })
  test_of kinds.BadStart = inr (record { from = omega arith; test = refl })

  number_at : (n : ℕ) → get_or tests n false ≡ true → kind_number (kind_at n) ≡ n + 2
  number_at zero h = refl
  number_at (suc zero) h = refl
  number_at (suc (suc zero)) h = refl
  number_at (suc (suc (suc zero))) h = refl
  number_at (suc (suc (suc (suc zero)))) h = refl
  number_at (suc (suc (suc (suc (suc zero))))) h = refl
  number_at (suc (suc (suc (suc (suc (suc zero)))))) h = refl
  number_at (suc (suc (suc (suc (suc (suc (suc zero))))))) h = refl
  number_at (suc (suc (suc (suc (suc (suc (suc (suc zero)))))))) h = refl
  number_at (suc (suc (suc (suc (suc (suc (suc (suc (suc zero))))))))) h = refl
  number_at (suc (suc (suc (suc (suc (suc (suc (suc (suc (suc zero)))))))))) h = refl
  number_at (suc (suc (suc (suc (suc (suc (suc (suc (suc (suc (suc n))))))))))) h = absurd (cc h)

  at_place : (n : ℕ) (kind : Kind) → option_map kind_at (Some n) ≡ Some kind → kind_at n ≡ kind
  at_place n kind is = cc is

  -- the kind that is told is that of the first test that is true
  record IsFirstKind (kind : Kind) : Type 0 where
    place : ℕ
    number : kind_number kind ≡ place + 2
    first : IsFirst tests place

  first_kind : (kind : Kind) → fault_of k last p ≡ Some kind → IsFirstKind kind
  first_kind kind is = go (first_true tests) refl (sym fault_is ∙ is) where
    go : (o : Option ℕ) → first_true tests ≡ o → option_map kind_at (first_true tests) ≡ Some kind → IsFirstKind kind
    go None e is = absurd (let f : ◌≡◌ {A = Option Kind} None (Some kind) = ap (option_map kind_at) (sym e) ∙ is in cc f)
    go (Some n) e is =
        let first : IsFirst tests n = first_is tests n e in
        let at : kind_at n ≡ kind = at_place n kind (ap (option_map kind_at) (sym e) ∙ is) in
        record { place = n; number = ap kind_number (sym at) ∙ number_at n first.here; first = first }

  pub told : (kind : Kind) → fault_of k last p ≡ Some kind → has_fault k last p kind ≡ true
  told kind is = elim (test_of kind) [
    | inl bad ↦ absurd (let f = first_kind kind is in let n : kind_number kind ≡ 1 = ap kind_number bad in omega (arith, n, f.number))
    | inr t ↦
        let f : IsFirstKind kind = first_kind kind is in
        let at : kind_number kind - 2 ≡ f.place = omega (arith, f.number) in
        t.test ∙ ap (λ (n : ℕ). get_or tests n false) at ∙ f.first.here
  ]

  pub least : (kind other : Kind) → fault_of k last p ≡ Some kind → has_fault k last p other ≡ true → kind_number kind ≤ kind_number other
  least kind other is h = elim (test_of other) [
    | inl bad ↦ absurd (let e : false ≡ true = ap (has_fault k last p) (sym bad) ∙ h in cc e)
    | inr t ↦
        let f : IsFirstKind kind = first_kind kind is in
        let le : f.place ≤ kind_number other - 2 = f.first.below (kind_number other - 2) (sym t.test ∙ h) in
        omega (arith, le, f.number, t.from)
  ]

  no_place : (o : Option ℕ) → option_map kind_at o ≡ None → o ≡ None
  no_place None is = refl
  no_place (Some n) is = absurd (cc is)

  pub none : (other : Kind) → fault_of k last p ≡ None → has_fault k last p other ≡ false
  none other is = elim (test_of other) [
    | inl bad ↦ ap (has_fault k last p) bad
    | inr t ↦ t.test ∙ none_true tests (no_place (first_true tests) (sym fault_is ∙ is)) (kind_number other - 2)
  ]

pub least_kind_is_told : LeastKindIsTold
least_kind_is_told = record { told = told; least = least; none = none }
