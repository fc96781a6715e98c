-- The causes of traps (Privileged, 3.1.15).
use Rattle.std.specs.Prelude.{ℕ, Bool, ◌==◌, List, [], ◌∷◌}
use Rattle.std.specs.List.{list_any}
use Rattle.rv_csr.specs.declared.cause.Cause.{Cause}
use Rattle.rv_csr.specs.declared.cause.Cause.TheVariants.{FetchMisaligned, FetchAccess, Illegal, Breakpoint, LoadMisaligned, LoadAccess, StoreMisaligned, StoreAccess, CallFromU, CallFromS, CallFromM, FetchPage, LoadPage, StorePage}

-- the numbers of the causes; 10 and 14 are reserved
abbrev pub number_of : Cause → ℕ
-- instruction address misaligned: a jump or branch to an address that is no multiple of 4 (Unprivileged, 2.5)
number_of FetchMisaligned = 0
-- instruction access fault (Privileged, 3.6)
number_of FetchAccess = 1
-- illegal instruction, and an access to a register that is denied (Privileged, 2.1)
number_of Illegal = 2
-- breakpoint: EBREAK (Privileged, 3.3.1)
number_of Breakpoint = 3
-- load address misaligned (Unprivileged, 2.6)
number_of LoadMisaligned = 4
-- load access fault (Privileged, 3.6)
number_of LoadAccess = 5
-- store address misaligned (Unprivileged, 2.6)
number_of StoreMisaligned = 6
-- store access fault (Privileged, 3.6)
number_of StoreAccess = 7
-- environment call: ECALL in U, in S and in M (Privileged, 3.3.1)
number_of CallFromU = 8
number_of CallFromS = 9
number_of CallFromM = 11
-- instruction page fault (Privileged, 4.3.2)
number_of FetchPage = 12
-- load page fault (Privileged, 4.3.2)
number_of LoadPage = 13
-- store page fault (Privileged, 4.3.2)
number_of StorePage = 15

abbrev pub causes : List Cause
causes = FetchMisaligned ∷ FetchAccess ∷ Illegal ∷ Breakpoint ∷ LoadMisaligned ∷ LoadAccess ∷ StoreMisaligned ∷ StoreAccess ∷ CallFromU ∷ CallFromS ∷ CallFromM ∷ FetchPage ∷ LoadPage ∷ StorePage ∷ []

-- one of the causes has the number
abbrev pub is_among : List Cause → ℕ → Bool
is_among some number = list_any (λ cause. number_of cause == number) some

-- the number is that of a cause
abbrev pub is_cause : ℕ → Bool
is_cause number = is_among causes number
