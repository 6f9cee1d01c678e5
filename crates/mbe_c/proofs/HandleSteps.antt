-- What the walks of a handle share. Assumes `Logic`.
--     E, Blk, Mac                what a box of a macro is made of; the block and the handle as rows
--     word, word_good            a handle's machine value, which is of its type
--     handle_out, handle_in      a handle is [what it owns beside its fields; its allocator]
--     by_held                    it has none, or one in a block
use Rattle.std.proofs.Common.{◌≡◌, ◌≢◌, ◌&&◌, ℕ, ◌^◌, ◌<◌, Bool, true, false, not, T, eqb, List, [], ◌∷◌, ◌++◌, refl}
use Rattle.std.proofs.Common.{subst, ◌∙◌, lit<, w64}
use Rattle.std.specs.Prelude.{Option, Some, None}
use seplogic.Ra.Ura.{Ura}
use mir.Syntax.{impl, tnil, dnil, int_big, ty_ptr}
use mir.Raw.{raw as bare}
use mir.Val.{Val, Fits, vint, vstruct, vcons, vnil, of_list, has_ty, WT}
use base.Logic.{via, guard_i, never, fst∗}
use types.Logic.{Logic, sem}
use types.Kit.{Goal, Seq, Step, Item, step, ‵, ◌$◌, move, drop, fsplit, fjoin, fpick, fpack, feq_l, feq_i, flt_l, flt_i}
use types.Run.{Opd}
use prog.Wp.{Env}
use denote.RattleType.{RattleType, Valss}
use denote.Memory.{lone}
use denote.Param.{layout}
use denote.RawPtr.{Ptr, block_ptr, null_ptr, ptr_val, in_a_block}
use denote.Steps.{nothing}
use denote.Struct.Struct.{within}
use denote.Struct.Owning.{shape, fields, to}
use Rattle.std.specs.Box.Ownership.{box_owns}
use Rattle.std.specs.Global.{Global}
use Rattle.std.specs.contracts.alloc.Global as heap
use Rattle.std.specs.contracts.impls.GlobalAllocator.TheImpl.{ghosts, dict}
use Rattle.std.proofs.alloc.Global.TheLaws as heap_laws
use Rattle.std.proofs.alloc.Calls.{handle_tells}
use Rattle.std.proofs.BoxSteps.Form.{Bx}
use Rattle.mbe_program.proofs.replies.kept_macro.KeptMacro.TheLaws as macro_laws
use Rattle.mbe_c.specs.HandleOwnership.{macro_row, HeldMacro, handle_owns, macro_state}
use Rattle.mbe_c.specs.contracts.raw_box.RawBox as block
use Rattle.mbe_c.specs.contracts.handle.MacroHandle as handle

abbrev pub E : Bx
E = record {
  row = macro_row;
  laws = macro_laws.the_row_laws heap.the_row ghosts heap_laws.the_row_laws;
  al = record { row = heap.the_row; laws = heap_laws.the_row_laws; g = ghosts; d = dict; drops = impl [] tnil dnil };
}

abbrev pub Blk : RattleType
Blk = block.the_row macro_row heap.the_row ghosts

abbrev pub Mac : RattleType
Mac = handle.the_row

both : (x y : Bool) → T x → T y → T (x && (y && true))
both true true s t = tt
both true false s t = absurd t
both false y s t = absurd s

abbrev pub word : Val → ℕ → Val → Val
word p n h = vstruct (vcons p (vcons (vint w64 n) (vcons h vnil)))

-- a machine value is a pointer, and the handle of the allocator
abbrev pub IsPointer : Val → Type 0
IsPointer p = T (has_ty ty_ptr p) × WT p

abbrev pub IsHeap : Val → Type 0
IsHeap h = T (has_ty (layout heap.the_row) h) × WT h

pub word_good : (p : Val) (n : ℕ) (h : Val) → IsPointer p → n < 2 ^ 64 → IsHeap h
    → T (has_ty (layout Mac) (word p n h)) × WT (word p n h)
word_good p n h p_is fits h_is = (
  both (has_ty ty_ptr p) (has_ty (layout heap.the_row) h) p_is.0 h_is.0,
  (p_is.1, (record { fits = fits }, (h_is.1, tt))),
)

-- a constant that is written with a proof of its bound
pub big : {M : Type 1} {𝓤 : Ura M} {𝓛 : Logic 𝓤} {K : Type 0} {Γ : List (Item 𝓤)} {E : Env 𝓤 𝓛.H} {n : ℕ}
    → Fits w64 n → Opd K 𝓛 Γ E (int_big w64 n) (vint w64 n)
big {𝓤 = 𝓤} {n = n} fits = record {
  go = λ Kt h. via 𝓤 (Kt (vint w64 n)) h (guard_i 𝓤 (Fits w64 n) (Kt (vint w64 n)) fits);
}

module _ {M : Type 1} {𝓤 : Ura M} {𝓛 : Logic 𝓤} {K : Type 0} {Γ : List (Item 𝓤)} {G : Goal 𝓤 𝓛.H} where
  pub handle_out : K → (d : Mac.Denot) (vs : List Val)
      → ((h : Val) → vs ≡ word (ptr_val d.at) d.state h ∷ [] → d.state < 2 ^ 64 → IsHeap h
      → Seq K 𝓛 (‵ (handle_owns d.alloc d.at d.state d.held) ∷ ‵ ((heap.the_row).own_val d.alloc (h ∷ [])) ∷ Γ) G)
      → Seq K 𝓛 (‵ (Mac.own_val d vs) ∷ Γ) G
  handle_out t d vs k =
      fsplit t $ fpick t (λ vss. fsplit t $ feq_l t (λ ev. fsplit t $ feq_l t (λ ep. fsplit t $ fsplit t $
      feq_l t (λ en. flt_l t (λ fits. fsplit t $
      handle_tells E.al t d.alloc vss.1.1.0 (λ h eh good. move t (1 ∷ []) $ drop t $ move t (1 ∷ []) $
      k h (ev ∙ (λ j. vstruct (of_list (ep j ++ (en j ++ (eh j ++ [])))) ∷ [])) fits good))))))

  pub handle_in : K → (d : Mac.Denot) (h : Val) → d.state < 2 ^ 64
      → Step K 𝓛 (‵ (Mac.own_val d (word (ptr_val d.at) d.state h ∷ [])) ∷ Γ) G
      (‵ (handle_owns d.alloc d.at d.state d.held) ∷ ‵ ((heap.the_row).own_val d.alloc (h ∷ [])) ∷ Γ) G
  handle_in t d h fits = step (λ s.
      let w : Val = word (ptr_val d.at) d.state h in let n : Val = vint w64 d.state in let p : Val = ptr_val d.at in
      nothing t $ move t (2 ∷ 0 ∷ []) $ fjoin t $
      flt_i t d.state (2 ^ 64) fits $ feq_i t (List Val) (n ∷ []) (n ∷ []) refl $ fjoin t $ fjoin t $
      feq_i t (List Val) (p ∷ []) (p ∷ []) refl $ fjoin t $ feq_i t (List Val) (w ∷ []) (w ∷ []) refl $ fjoin t $
      fpack t (Valss (fields handle.the_type)) (within (shape handle.the_type) (to handle.the_type d) (w ∷ []))
      (p ∷ [], (n ∷ [], (h ∷ [], tt))) $
      fjoin t $ s)

  pub by_held : K → (alloc : Global) (at : Ptr) (state : ℕ) (held : Option HeldMacro)
      → (held ≡ None → state ≢ macro_state → Seq K 𝓛 Γ G)
      → ((b o : ℕ) (m : HeldMacro) → held ≡ Some m → at ≡ block_ptr b o → state ≡ macro_state
      → Seq K 𝓛 (‵ (box_owns (ghosts.dealloc_token alloc) macro_row (block_ptr b o) m) ∷ Γ) G)
      → Seq K 𝓛 (‵ (handle_owns alloc at state held) ∷ Γ) G
  by_held t alloc at state None none one = fpick t (λ other. drop t $ none refl other)
  by_held t alloc at state (Some m) none one = fsplit t $ fpick t (λ marked. drop t $
      in_a_block t at (λ p. box_owns (ghosts.dealloc_token alloc) macro_row p m)
      (fst∗ 𝓤 (never 𝓤) (sem 𝓛 (ghosts.dealloc_token alloc (bare (lone macro_row.mir)) null_ptr)))
      (λ b o is. one b o m refl is marked))

-- a test that fails
pub not_not : (b : Bool) → T (not (not b)) → T b
not_not true t = tt
not_not false t = absurd t

-- a pointer is one by its value
pub ptr_good : (p : Ptr) → IsPointer (ptr_val p)
ptr_good (block_ptr b o) = (tt, tt)
ptr_good null_ptr = (tt, record { fits = lit< tt })

-- the state of a handle that has none
pub zero-is_none : 0 ≢ macro_state
zero-is_none e = subst (λ (n : ℕ). T (eqb 0 n)) e tt
