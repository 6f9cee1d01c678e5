-- Definitions of trees, by those of their parts.
use Rattle.std.proofs.Common.{◌≡◌, ℕ, suc, Bool, List, Option, Some, None, refl, ap, sym, subst, ◌∙◌}
use Rattle.std.specs.Prelude.{option_map}
use Rattle.mbe_tt.specs.Trees.Tree.{Forest, Tree, none}
use Rattle.mbe_rewriter.specs.MacroItems.{MacroCall, MacroDefinition, Definition, CallItem, Other, front}
use Rattle.mbe_session.specs.Imports.{ModuleItem, module_at}
use Rattle.mbe_session.specs.Scopes.{Scope, IsReadAs, Language}
use Rattle.mbe_session.specs.Collector.{no_attributes, after_definition, with_front_attribute, visibility_of, parent_of}
use Rattle.mbe_session.specs.Collector.{TreePlace, after_tree, DefinesTree, DefinesModule, DefinesAll, ends}
use Rattle.mbe_session.specs.Collector.{at_definition, at_call, at_module, at_tree, DefinesIn}
use Rattle.mbe_session.specs.declared.file_expander.collector.MacroAttributes.{MacroAttributes}
use Rattle.mbe_session.specs.declared.scope.Visibility.{Visibility}

-- what is left to read, with what was read, is all
pub record Defining (e : Language) (levels : ℕ) (p : TreePlace) (f : Forest) (s : Scope) (m : MacroAttributes)
    (rest : Forest)
    (t : Scope) : Type 0 where
  pub on : (u : Scope) → DefinesAll e (DefinesIn e levels) p m rest t u
      → DefinesAll e (DefinesIn e levels) p no_attributes f s u

pub none_defined : (e : Language) (levels : ℕ) (p : TreePlace) (f : Forest) (s : Scope) (m : MacroAttributes) → m
    ≡ no_attributes
    → Defining e levels p f s m f s
none_defined e levels p f s m h = record {
  on = λ u more. subst (λ x. DefinesAll e (DefinesIn e levels) p x f s u) h
      more;
}

pub definition_defined : (e k : Language) (levels : ℕ) (p : TreePlace) (r : Visibility) (x : List ℕ) (f g : Forest)
    (d : MacroDefinition)
    (s t u : Scope) (m n : MacroAttributes)
    → k ≡ e → Defining e levels p f s m g t → front g ≡ Definition d → r ≡ visibility_of p m d → x ≡ parent_of p m d
    → IsReadAs k d r x t u
    → n ≡ after_definition m → Defining e levels p f s n d.rest u
definition_defined e k levels p visibility parent f g d s t u m n h a is w v r c = record {
  on = λ z more.
      a.on z (at_definition m g d t u z is (subst (λ x. IsReadAs x d (visibility_of p m d) (parent_of p m d) t u) h
      (subst (λ x. IsReadAs k d x (parent_of p m d) t u) w (subst (λ x. IsReadAs k d visibility x t u) v r)))
      (subst (λ x. DefinesAll e (DefinesIn e levels) p x d.rest u z) c more));
}

pub call_defined : (e : Language) (levels : ℕ) (p : TreePlace) (f g : Forest) (c : MacroCall) (s t : Scope)
    (m : MacroAttributes)
    → Defining e levels p f s m g t → front g ≡ CallItem c → Defining e levels p f s m c.rest t
call_defined e levels p f g c s t m a is = record { on = λ v more. a.on v (at_call m g c t v is more) }

pub module_defined : (e k : Language) (levels : ℕ) (p : TreePlace) (f g rest : Forest) (tree : Tree) (x : ModuleItem)
    (s t u : Scope)
    (m o : MacroAttributes)
    → k ≡ e → Defining e levels p f s m g t → front g ≡ Other tree rest → module_at g ≡ Some x
    → DefinesModule (DefinesIn k levels) p m.is_used x t u → o ≡ no_attributes → Defining e levels p f s o x.rest u
module_defined e k levels p f g rest tree x s t u m o h a is c r l = record {
  on = λ v more.
      a.on v (at_module m g rest tree x t u v is c
      (subst (λ z. DefinesModule (DefinesIn z levels) p m.is_used x t u) h r)
      (subst (λ z. DefinesAll e (DefinesIn e levels) p z x.rest u v) l more));
}

pub tree_defined : (e k : Language) (levels : ℕ) (p : TreePlace) (f g rest : Forest) (tree : Tree) (s t u : Scope)
    (m n o : MacroAttributes)
    → k ≡ e → Defining e levels p f s m g t → front g ≡ Other tree rest → module_at g ≡ None
    → n ≡ with_front_attribute g m
    → DefinesTree (DefinesIn k levels) p g tree t u → o ≡ after_tree tree n → Defining e levels p f s o rest u
tree_defined e k levels p f g rest tree s t u m n o h a is w c r l = record {
  on = λ v more.
      a.on v (at_tree m g rest tree t u v is w
      (subst (λ x. DefinesTree (DefinesIn x levels) p g tree t u) h r)
      (subst (λ x. DefinesAll e (DefinesIn e levels) p x rest u v) (l ∙ ap (after_tree tree) c) more));
}

defines_by : (e : Language) (levels : ℕ) (p : TreePlace) (f : Forest) (s t : Scope)
    → DefinesAll e (DefinesIn e levels) p no_attributes f s t
    → DefinesIn e (suc levels) p f s t
unfolding DefinesIn
defines_by e levels p f s t h = h

pub all_defined : (e : Language) (levels : ℕ) (p : TreePlace) (f rest : Forest) (s t : Scope) (m : MacroAttributes)
    → Defining e levels p f s m rest t
    → rest ≡ none → DefinesIn e (suc levels) p f s t
all_defined e levels p f rest s t m a h =
    defines_by e levels p f s t
    (a.on t (subst (λ x. DefinesAll e (DefinesIn e levels) p m x t t) (sym h) (ends m t)))

pub none_inside : (e : Language) (levels : ℕ) (p : TreePlace) (f : Forest) (s : Scope) → levels ≡ 0
    → DefinesIn e levels p f s s
unfolding DefinesIn
none_inside e levels p f s h = subst (λ n. DefinesIn e n p f s s) (sym h) refl

-- what is shown of an option
pub option_is : {X Y : Type 0} (shown : X → Y) (r : Option X) (o : Option Y) (x : X) → option_map shown r ≡ o
    → r ≡ Some x
    → o ≡ Some (shown x)
option_is shown r o x e h = sym e ∙ ap (option_map shown) h

pub option_isnt : {X Y : Type 0} (shown : X → Y) (r : Option X) (o : Option Y) → option_map shown r ≡ o → r ≡ None
    → o ≡ None
option_isnt shown r o e h = sym e ∙ ap (option_map shown) h
