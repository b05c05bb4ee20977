-- An empty body. The borrow is opened, and closed at another list. Only contracts read the row of the second
-- reference.
use Rattle.std.proofs.Common.{List, [], ◌∷◌, ◌++◌, refl}
use mir.{Syntax.named, Val.{Val, vunit, vptr}}
use base.{Fml.{ftrue, flft}, Logic.{SProp, id⊢}}
use types.{ByLocal.{alloc_all, pass_all, free_all, look_at, sets}, Kit.{‵, raw, ◌⊛◌, ◌$◌, ◌∵◌, !, qed, move}}
use types.Kit.{keep, drop, use1, split, join, fsplit, fsplit3, fjoin, fjoin3, feq_i, suffices, frame, done}
use types.Run.{unit_lit, of_opd, returns, enter}
use contract.Running.{tables}
use denote.{Exit.yes, RattleType.owns, Ref.{MutRef, ShrRef, mut_vals, mut_Tells, shr_vals, shr_Tells}}
use denote.{Signature.plain, Steps.{opens, closes}}
use denote.Triple.Walked.{says, Stays, stay_ref, stay_none_ref, walk_of, Goes-ref, Goes-none_ref, ends_at}
use Rattle.std.proofs.raw_atomic.Walks.{proved}
use Rattle.crx_rinex.specs.declared.rows_so_far.RowsSoFar.{RowsSoFar}
use Rattle.crx_rinex.specs.contracts.rows_so_far.RowsSoFar.add.Key.{name as #it}
use Rattle.crx_rinex.specs.contracts.rows_so_far.RowsSoFar as T
use Rattle.crx_rinex.specs.contracts.row_buffer.RowBuffer as R
use Rattle.crx_rinex.specs.contracts.rows_so_far.RowsSoFar.add as it
use Rattle.crx_rinex.proofs.rows_so_far.RowsSoFar.add.Statement as stated
use Rattle.crx_rinex.proofs.rows_so_far.RowsSoFar.add.Code as code

pub add_spec : {M : Type 1} → stated.statement M
add_spec 𝓤 𝓛 𝓜 𝓡 wired =
    let 𝓣 = tables 𝓤 𝓛.H 𝓜 𝓡 𝓡.env in let c = it.clauses 𝓛 𝓜.mem 𝓡.returns in
    let stayed : Stays (it.ended).signature.params (it.ended).kept = (
      stay_ref (0 ∷ []) tt (plain (λ _. T.the_row)),
      (stay_none_ref (1 ∷ []) tt (plain (λ _. R.the_row)) yes, tt),
    ) in
    proved 𝓛 it.ended stayed c 𝓜 𝓡 (
      Goes-ref 𝓛 2 0 tt (plain (λ _. T.the_row)),
      (Goes-none_ref 𝓛 2 (1 ∷ []) tt (plain (λ _. R.the_row)) yes, tt),
    ) #it code.function (code.unfolded 𝓤 𝓛.H 𝓜 𝓡 wired) (λ κs. (mut_vals, (shr_vals, tt)))
    (λ κs. (mut_Tells (named 0) κs.0 T.the_row, (shr_Tells (named 1) κs.1.0 R.the_row, tt)))
    (λ κs qs bounds a g are.
    let b = a.0.ref_ptr.0 in let o = a.0.ref_ptr.1 in let h : RowsSoFar = a.0.now in
    let s : Val = vptr a.1.0.ref_ptr.0 a.1.0.ref_ptr.1 in
    let h' : RowsSoFar = record { marker = h.marker; rows = h.rows ++ a.1.0.now ∷ [] } in
    let at : List Val × (List Val × Unit {0}) = (vptr b o ∷ [], (s ∷ [], tt)) in
    let Post : Val → SProp 𝓤 = (walk_of 𝓛 it.ended stayed c).post ((κs, qs, bounds, a, at), g) in
    qed 𝓛 (((‵ (flft κs.0 qs.0) ⊛ (‵ (flft κs.1.0 qs.1.0) ⊛ ‵ ftrue)) ⊛ ‵
    (owns (MutRef (named 0) κs.0 T.the_row ∷ ShrRef (named 1) κs.1.0 R.the_row ∷ []) a at)) ∷ raw
    ((c κs a).requires g) ∷ []) ∵ split ! $ split ! $ move ! (2 ∷ []) $ fsplit ! $ fsplit3 ! $ drop ! $ move !
    (0 ∷ 1 ∷ 3 ∷ []) $ enter ! 𝓣.C 𝓣.Λ code.function (vptr b o ∷ s ∷ []) Post $ alloc_all !
    (λ l. pass_all ! refl ((tt, tt), ((tt, tt), tt)) $ move ! (0 ∷ 1 ∷ 2 ∷ []) $
    opens ! tt T.the_row {h = h} b o (λ vs. sets ! (of_opd ! (unit_lit !)) refl (tt, tt) $ move ! (1 ∷ []) $
    use1 𝓛 (‵ ((T.the_row).own_val h' vs)) (id⊢ 𝓤 _) $ move ! (1 ∷ 0 ∷ []) $
    closes ! tt T.the_row h' vs b o $ returns ! (look_at ! 0 refl) $ free_all ! refl $ keep !
    (0 ∷ 1 ∷ 2 ∷ 3 ∷ 4 ∷ []) $ suffices ! _
    (ends_at 𝓛 it.ended stayed c ((κs, qs, bounds, a, at), g) vunit tt (h', (tt, tt)) (tt, (tt, tt))) $ says !
    refl $ move ! (2 ∷ 4 ∷ []) $ join ! $ frame ! $ feq_i ! (List Val) (vptr b o ∷ []) (vptr b o ∷ []) refl $
    fjoin3 ! $ fjoin ! $ feq_i ! (List Val) (vunit ∷ []) (vunit ∷ []) refl $ move ! (1 ∷ 0 ∷ []) $ done !)))
