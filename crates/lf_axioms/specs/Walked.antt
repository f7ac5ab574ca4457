-- What the code keeps of the walk, as the definition has it.
use Rattle.std.specs.Prelude.{◌≡◌, List, [], ◌∷◌, ◌++◌, Result, Ok, Err, fold, flat_map}
use Rattle.lf_core.specs.Term.{Path}
use Rattle.lf_elaboration.specs.Axioms.{Task, visit, read, visits, names_in, Walk, ended, waits}
use Rattle.lf_axioms.specs.declared.item.Item.{Item}
use Rattle.lf_axioms.specs.declared.item.Item.TheVariants.{Visit, Read, Subterm, Names, Terms}
use Rattle.lf_axioms.specs.declared.item.Visited.{Visited}
use Rattle.lf_axioms.specs.declared.halt.Halt.{Halt}
use Rattle.lf_axioms.specs.declared.halt.Halt.TheVariants.{Need, NoMemory}
use Rattle.lf_axioms.specs.declared.answer.ReachedAxioms.{ReachedAxioms}
use Rattle.lf_axioms.specs.declared.answer.ReachedAxioms.TheVariants.{Done, Need as NeedFirst, NoMemory as NoMore}

abbrev pub tasks_of : Item → List Task
tasks_of (Visit n) = visit n.now ∷ []
tasks_of (Read n) = read n.now ∷ []
tasks_of (Subterm t) = visits (names_in t.now)
tasks_of (Names ns) = visits ns.now
tasks_of (Terms ts) = visits (flat_map names_in ts.now)

-- The last item is the first to be done.
abbrev pub todo : List Item → List Task
todo items = fold (λ ts i. tasks_of i ++ ts) [] items

-- The names of the constants, the last first.
abbrev pub visited : List Visited → List Path
visited ks = fold (λ ns k. k.name.now ∷ ns) [] ks

-- A step leads from one walk to another, or ends it.
abbrev pub Stepped : {A : Type 0} → Walk → Result A Halt → Walk → Type 0
Stepped w (Ok a) next = w ≡ next
Stepped w (Err (Need k)) next = w ≡ waits k
Stepped w (Err NoMemory) next = Unit {0}

-- Want of memory is the one free answer.
abbrev pub Answers : Walk → ReachedAxioms → Type 0
Answers w (Done ns) = w ≡ ended ns.items
Answers w (NeedFirst k) = w ≡ waits k
Answers w NoMore = Unit {0}

abbrev pub told : Halt → ReachedAxioms
told (Need k) = NeedFirst k
told NoMemory = NoMore
