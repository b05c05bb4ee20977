-- The vocabulary of the proofs over raw pointers, from this crate, std and the logic.
pub use Rattle.std.proofs.Common.{◌≡◌, List, [], ◌∷◌, ◌++◌, refl, subst, sym, ap, ◌∙◌}
pub use Rattle.std.proofs.raw_atomic.Walks.{proved_at, leaves}
pub use Rattle.std_alloc.proofs.BoxSteps.Steps.{box_out, box_in}
pub use Rattle.std_alloc.specs.Box.Ownership.{box_owns}
pub use Rattle.std_heap.specs.contracts.GlobalAllocator.TheImpl.{ghosts}
pub use Rattle.core.proofs.alloc.Calls.{Al, handle_tells, Goes-blank}
pub use Rattle.core.proofs.atomic.Steps.{fm}
pub use Rattle.core.proofs.cell.Inside.{Good}
pub use Rattle.rnxcmp_c.specs.ReaderBoxes.{reader_box_owns}
pub use Rattle.rnxcmp_c.specs.declared.reader.Reader.{Reader}
pub use base.Fml.{ftrue, flft, fsep}
pub use base.Logic.{never, fst∗, SProp, id⊢, emp}
pub use contract.Monad.{fact, fact_i}
pub use contract.Running.{tables}
pub use denote.Builtin.{RawPtr}
pub use denote.Exit.{no, yes}
pub use denote.Memory.{lone}
pub use denote.Param.{layout, param, bounded}
pub use denote.Param.Laws.{param_laws}
pub use denote.RattleType.{Valss, RattleType, owns}
pub use denote.RawPtr.{Ptr, ptr_val, block_ptr, null_ptr, in_a_block}
pub use denote.Signature.{types_at, plain}
pub use denote.Steps.{nothing, only, heard}
pub use denote.Struct.Owning.{shape}
pub use denote.Struct.Struct.{within}
pub use denote.Triple.Spec.{triple_of}
pub use denote.Triple.Walked.{Stays, stay_dropped, walk_of, says, ends_at, Goes-dropped}
pub use mir.MapTy.{inst_fn}
pub use mir.Syntax.{dnil, a_type, dcons}
pub use mir.Val.{Val, vstruct, vcons, vnil, vptr, of_list}
pub use prog.Wp.{WpFn}
pub use seplogic.Ra.Ura.{Ura}
pub use types.ByLocal.{alloc_all, pass_all, free_all, look_at, get, get_in, sets}
pub use types.Kit.{Item, Goal, Step, step, ‵, ◌$◌, fjoin, fpack, feq_i, move, drop, fsplit, fpick, feq_l, raw}
pub use types.Kit.{◌⊛◌, some, later, ◌∵◌, !, qed, by, keep, split, split3, join, pick, suffices, use1, await}
pub use types.Kit.{rewrite, use0, done, regoal, prop}
pub use types.Logic.{Logic, sem}
pub use types.Part.{sub, whole, agg}
pub use types.Run.{stop, fld, of_opd, no_more, and_then, returns, enter}
