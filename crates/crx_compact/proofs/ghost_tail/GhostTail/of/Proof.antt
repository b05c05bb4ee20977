-- `of` returns a value without bytes, at the tail of the history. The history doesn't change.
use Rattle.crx_compact.proofs.Vocabulary.{[], ◌∷◌, refl, tail_of_history}
use Rattle.std.proofs.raw_atomic.Walks.{proved}
use mir.Syntax.{named}
use mir.Val.{Val, vcons, vnil, vptr, vstruct}
use types.Kit.{‵, raw, ◌⊛◌, ◌$◌, ◌∵◌, !, qed, move, keep, split, suffices, done}
use types.Run.{no_more, and_then, returns, enter}
use types.Part.{agg}
use types.ByLocal.{alloc_all, pass_all, free_all, look_at, get, sets}
use denote.Exit.{yes}
use denote.RattleType.{owns}
use denote.Ref.{shr_vals, shr_Tells}
use denote.Shadow.{pure_i}
use denote.Signature.{plain, types_at}
use denote.Triple.Entry.{alive}
use denote.Triple.Walked.{says, Stays, stay_none_ref, Goes-none_ref, walk_of, ends_at}
use Rattle.crx_compact.specs.{declared.ghost_tail.GhostTail.GhostTail, contracts.ghost_tail.GhostTail.the_row}
use Rattle.crx_compact.proofs.ghost_tail.GhostTail.of.Statement.{statement}
use Rattle.crx_compact.specs.contracts.history.History as History
use Rattle.crx_compact.specs.contracts.ghost_tail.GhostTail.of as it
use Rattle.crx_compact.proofs.ghost_tail.GhostTail.of.Code as code

abbrev stayed : Stays it.ended.signature.params it.ended.kept
stayed = (stay_none_ref (0 ∷ []) tt (plain (λ _. History.the_row)) yes, tt)

pub of_spec : {M : Type 1} → statement M
of_spec 𝓤 𝓛 𝓜 𝓡 wired =
    let clauses = it.clauses 𝓛 𝓜.mem 𝓡.returns in
    proved 𝓛 it.ended stayed clauses 𝓜 𝓡
    (Goes-none_ref 𝓛 1 (0 ∷ []) tt (plain (λ _. History.the_row)) yes, tt)
    it.Key.name code.function (code.unfolded 𝓤 𝓛.H 𝓜 𝓡 wired)
    (λ κs. (shr_vals, tt)) (λ κs. (shr_Tells (named 0) κs.0 History.the_row, tt))
    (λ κs qs bounds a g are.
    let pointer : Val = vptr a.0.ref_ptr.0 a.0.ref_ptr.1 in
    let stored : Val = vstruct (vcons (vstruct vnil) vnil) in
    let kept : GhostTail = record { marker = record {}; tail = tail_of_history a.0.now } in
    let bound : (walk_of 𝓛 it.ended stayed clauses).Ghost = ((κs, qs, bounds, a, (pointer ∷ [], tt)), g) in
    qed 𝓛 ((raw (alive 𝓛 it.signature κs qs) ⊛ ‵ (owns (types_at it.signature.params κs) a bound.0.4))
    ∷ raw ((clauses κs a).requires g) ∷ []) ∵ keep ! (0 ∷ []) $ split ! $
    enter ! _ _ _ _ _ $ alloc_all ! (λ l. pass_all ! refl ((tt, tt), tt) $
    sets ! (agg ! (no_more !)) refl (tt, tt) $
    sets ! (agg ! (and_then ! (get ! refl) (no_more !))) refl (tt, (tt, tt)) $
    returns ! (look_at ! 0 refl) $ free_all ! refl $
    suffices ! _ (ends_at 𝓛 it.ended stayed clauses bound stored kept (tt, tt) (tt, tt)) $
    says ! refl $
    pure_i ! (the_row.own_val kept (stored ∷ [])) ((λ vss. (tt, ((λ uss. (tt, tt)), tt))), tt)
    (((vstruct vnil ∷ [], tt), (refl, ((tt, (refl, tt)), tt))), tt) $
    move ! (1 ∷ 2 ∷ 0 ∷ []) $ done !))
