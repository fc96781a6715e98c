-- What holds of each case of a list.
use Rattle.std.proofs.Common.{◌≡◌, List, [], ◌∷◌, ◌++◌, All, sym, subst}
use Rattle.std.proofs.lemmas.List.Elements.{All-nil, All-push}
use Rattle.fd_prob.specs.declared.problem.Case.{Case as ACase}

pub nothing : (P : ACase → Type 0) (cs : List ACase) → cs ≡ [] → All P cs
nothing P cs e = subst (λ (l : List ACase). All P l) (sym e) (All-nil P)

pub pushed : (P : ACase → Type 0) (old new : List ACase) (c : ACase) → new ≡ old ++ c ∷ [] → P c → All P old → All P new
pushed P old new c e h all = subst (λ (l : List ACase). All P l) (sym e) (All-push P old c all h)
