use Rattle.std.proofs.Common.{◌≡◌, ℕ, true, false, List, sym, ap, ◌∙◌}
use Rattle.mal_base.specs.Profiles.{policy}
use Rattle.mal_base.specs.NumberedClause.{NumberedClause}
use Rattle.mal_base.specs.declared.profile.Policy.{Policy}
use Rattle.mal_base.specs.declared.profile.Profile.{Profile}
use Rattle.mal_base.specs.declared.trail_entry.TrailEntry.{TrailEntry}
use Rattle.spec_learn.specs.Analysis.{analysed}
use Rattle.spec_learn.specs.Learning.{analysed_in}
use Rattle.spec_learn.specs.Shorter.{shortened}
use Rattle.spec_learn.proofs.ProfileLemmas.{in-shorter, in-longer}

-- what a profile learns, by the policy that the code asked for
pub learned-shorter : (p : Policy) (profile : Profile) (clauses : List NumberedClause) (past : List TrailEntry) (id : ℕ) → p ≡ policy profile → p.minimizes ≡ true → shortened clauses past id ≡ analysed_in profile clauses past id
learned-shorter p profile clauses past id is t = sym (in-shorter profile clauses past id (sym (ap (λ (q : Policy). q.minimizes) is) ∙ t))

pub learned-longer : (p : Policy) (profile : Profile) (clauses : List NumberedClause) (past : List TrailEntry) (id : ℕ) → p ≡ policy profile → p.minimizes ≡ false → analysed clauses past id ≡ analysed_in profile clauses past id
learned-longer p profile clauses past id is f = sym (in-longer profile clauses past id (sym (ap (λ (q : Policy). q.minimizes) is) ∙ f))
