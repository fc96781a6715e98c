-- Statements without where their words lie in memory.
use Rattle.std.specs.Prelude.{ℕ, List, map}
use Rattle.std.specs.Borrow.{Bor}
use Rattle.tpl_lang.specs.Phrases.{SetPhrase, Named, Listed, Domain, Numbers, Words, Outcomes, AtomPhrase, Among, NotAmong, IsName, Same, Differ, Taken, NotTaken, Shared, WishPhrase, Phrase, Ram, Pool, Tables, Flags, Vectors, Set, Name, Data, Hart, Start, Csr, Reg, Body, Do, Fault, Seq, Repeat, Choose, Way, Label, Close}
use Rattle.tpl_token.specs.declared.text.SetText.{SetText}
use Rattle.tpl_token.specs.declared.text.SetText.TheVariants as sets
use Rattle.tpl_token.specs.declared.text.DomainText.{DomainText}
use Rattle.tpl_token.specs.declared.text.DomainText.TheVariants as domains
use Rattle.tpl_token.specs.declared.text.AtomText.{AtomText}
use Rattle.tpl_token.specs.declared.text.AtomText.TheVariants as atoms
use Rattle.tpl_token.specs.declared.text.WishText.{WishText}
use Rattle.tpl_token.specs.declared.text.Statement.{Statement}
use Rattle.tpl_token.specs.declared.text.Statement.TheVariants as statements

abbrev pub set_view : SetText → SetPhrase
set_view (sets.Named w) = Named w.now
set_view (sets.Listed es align) = Listed es.items align

abbrev pub words_view : List (Bor (List ℕ)) → List (List ℕ)
words_view = map (λ w. w.now)

abbrev pub domain_view : DomainText → Domain
domain_view (domains.Numbers s) = Numbers (set_view s)
domain_view (domains.Words ws) = Words (words_view ws.items)
domain_view (domains.Outcomes os) = Outcomes os.items

abbrev pub atom_view : AtomText → AtomPhrase
atom_view (atoms.Among v d) = Among v (domain_view d)
atom_view (atoms.NotAmong v d) = NotAmong v (domain_view d)
atom_view (atoms.IsName v w) = IsName v w.now
atom_view (atoms.Same v u) = Same v u
atom_view (atoms.Differ v u) = Differ v u
atom_view atoms.Taken = Taken
atom_view atoms.NotTaken = NotTaken
atom_view atoms.Shared = Shared

abbrev pub wish_view : WishText → WishPhrase
wish_view w = record { prefer = w.prefer; atom = atom_view w.atom }

abbrev pub wishes_view : List WishText → List WishPhrase
wishes_view = map wish_view

abbrev pub phrase : Statement → Phrase
phrase (statements.Ram lo hi) = Ram lo hi
phrase (statements.Pool fs) = Pool fs.items
phrase (statements.Tables fs) = Tables fs.items
phrase (statements.Flags bs) = Flags bs.items
phrase (statements.Vectors s) = Vectors (set_view s)
phrase (statements.Set w s) = Set w.now (set_view s)
phrase (statements.Name w s) = Name w.now (set_view s)
phrase (statements.Data a w) = Data a w
phrase (statements.Hart n) = Hart n
phrase (statements.Start pc p) = Start pc p
phrase (statements.Csr w v) = Csr w.now v
phrase (statements.Reg n v) = Reg n v
phrase statements.Body = Body
phrase (statements.Do ws) = Do (wishes_view ws.items)
phrase (statements.Fault os) = Fault os.items
phrase statements.Seq = Seq
phrase (statements.Repeat n) = Repeat n
phrase statements.Choose = Choose
phrase (statements.Way w) = Way w
phrase (statements.Label w) = Label w.now
phrase statements.Close = Close
