-- What the walks by hand of this crate share: the names that they cite, and three steps.
use contract.Monad.{fact_i}
use types.Kit.{Item, Goal, Step, prop, use0}
pub use Rattle.std.proofs.Common.{◌≡◌, ℕ, List, [], ◌∷◌, ◌++◌, refl, sym, ap, ◌∙◌, subst, lit<}
pub use mir.Syntax.{Fn, a_type, impl, tnil, dcons, dnil}
pub use mir.Val.{Val, vptr, vstruct, vcons, vnil, of_list}
pub use mir.MapTy.{inst_fn}
pub use base.Logic.{SProp, ent, emp, id⊢}
pub use base.Fml.{Fml, ftrue, flft}
pub use seplogic.Ra.Ura.{Ura}
pub use prog.Wp.{WpFn}
pub use types.Logic.{Logic, sem}
pub use types.Kit.{Seq, ‵, raw, ◌⊛◌, some, later, at_ret, ◌$◌, ◌∵◌, !, qed, by, move, keep, drop, split, split3, join, fsplit, fjoin, fpick, pick, feq_i, feq_l, suffices, use1, await, rewrite}
pub use types.Part.{agg, sub, whole}
pub use types.Run.{stop, fld, lit, of_opd, no_more, and_then, first, blocks, exec, returns, enter}
pub use types.ByLocal.{alloc_all, pass_all, free_all, look_at, get, get_in, sets, env}
pub use contract.Monad.{fact}
pub use contract.Running.{tables}
pub use denote.Exit.{no}
pub use denote.RattleType.{RattleType, owns}
pub use denote.RawPtr.{Ptr, block_ptr, null_ptr, ptr_val, in_a_block}
pub use denote.Signature.{types_at, plain}
pub use denote.Steps.{nothing, only}
pub use denote.Param.{param, layout, bounded}
pub use denote.Param.Laws.{param_laws}
pub use denote.Triple.Spec.{triple_of}
pub use denote.Triple.Walked.{Stays, stay_dropped, walk_of}
pub use Rattle.std.proofs.alloc.Calls.{Goes-blank, handle_tells}
pub use Rattle.std.proofs.alloc.Shapes.{after}
pub use Rattle.std.proofs.cell.Inside.{Good}
pub use Rattle.std.proofs.raw_atomic.Calls.{fm}
pub use Rattle.std.proofs.raw_atomic.Walks.{proved_at, leaves}

module _ {M : Type 1} {𝓤 : Ura M} {𝓛 : Logic 𝓤} {K : Type 0} {Γ : List (Item 𝓤)} where
  -- a fact that holds is put in front
  pub holds : {G : Goal 𝓤 𝓛.H} → K → {φ : Type 0} → φ → Step K 𝓛 (raw (fact 𝓤 φ) ∷ Γ) G Γ G
  holds t {φ} x = use0 𝓛 (raw (fact 𝓤 φ)) (fact_i 𝓤 φ (emp 𝓤) x)

  -- a formula that nothing is needed for is put in front
  pub makes : {G : Goal 𝓤 𝓛.H} → K → {F : Fml} → ent 𝓤 (emp 𝓤) (sem 𝓛 F) → Step K 𝓛 (‵ F ∷ Γ) G Γ G
  makes t {F} h = use0 𝓛 (‵ F) h

  -- the arguments that a function runs on are told another way
  pub runs_on : K → (run : List Val → SProp 𝓤) {us vs : List Val} → us ≡ vs → Step K 𝓛 Γ (prop (run vs)) Γ (prop (run us))
  runs_on t run {us} {vs} told = suffices t (run vs) (subst (λ (ws : List Val). ent 𝓤 (run vs) (run ws)) (sym told) (id⊢ 𝓤 (run vs)))
