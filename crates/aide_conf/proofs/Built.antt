-- What is kept after one more place.
use Rattle.std.proofs.Common.{rules, ℕ, ◌≡◌, ◌<◌, ◌+◌, Bool, true, false, List, [], ◌∷◌, ◌++◌, length, refl, sym, ap}
use Rattle.std.proofs.Common.{subst, ◌∙◌, arith, Option, Some, None, cond, Result, inl, inr, ◌⊎◌}
use Rattle.std.specs.Prelude.{if◌then◌else◌, is_some, IsSome, Vec, ◌||◌, option_map}
use Rattle.std.specs.List.{list_any}
use Rattle.std.specs.Option.{option_or}
use Rattle.std.specs.FinMap.{get, len, insert, remove, get-insert, len-insert}
use Rattle.std.specs.Cmp.Lexicographic.{nat_list_cmp_total, texts_ties}
use Rattle.std.proofs.lemmas.Bool.Decides.{nat_tests}
use Rattle.std.proofs.lemmas.List.{reverse-append}
use Rattle.std.proofs.Math.Path.{fun_ext}
use Rattle.std.proofs.Math.Bool.{or-true, or-false}
use Rattle.aide_attr.specs.declared.set.AttrSet.{AttrSet}
use Rattle.aide_attr.specs.declared.expression.ExprFault.{ExprFault}
use Rattle.aide_attr.specs.Groups.{Sets, names_of, meaning_of, IsFull}
use Rattle.aide_attr.specs.Known.{predefined}
use Rattle.aide_attr.specs.NameMap.{Names}
use Rattle.aide_attr.specs.Set.{has}
use Rattle.aide_conf.specs.declared.options.Options.{Options}
use Rattle.aide_conf.specs.declared.option_kind.Side.{Side}
use Rattle.aide_conf.specs.declared.option_kind.Side.TheVariants.{Old, New}
use Rattle.aide_conf.specs.declared.options.Switch.{Switch}
use Rattle.aide_conf.specs.declared.options.AttrList.{AttrList}
use Rattle.aide_conf.specs.declared.builder.SettingsBuilder.{SettingsBuilder}
use Rattle.aide_conf.specs.Effect.{Effect, NamesDatabase, EndsOptions, DefinesGroup, DefinesVariable, DropsVariable, same}
use Rattle.aide_conf.specs.Marks.{Marked, says, names_given, add_name, is_name}
use Rattle.aide_conf.specs.MarkedGroups.{set_meant, meaning_after, group, group_in, group_names, group_name_of, is_too_many}
use Rattle.aide_conf.specs.MarkedPaths.{path_in, path_by, path_set}
use Rattle.aide_conf.specs.MarkedVariables.{variable_by, variable_name_of}
use Rattle.aide_conf.specs.Settings.{AreOptions, counted, fixes, fixes_by, level_by, switch_by, attrs_by}
use Rattle.aide_conf.specs.code.Variables.{values_of}
use Rattle.aide_conf.specs.code.Builder.{IsBuiltFrom, HasGroups, HasVariables, text_at, unless_fixed, NamesPath, HasNewGroup}
use Rattle.aide_conf.proofs.Names.{exact}
use Rattle.aide_conf.proofs.VariableSteps.{variables_same, variables_set, variables_unset}
use Rattle.aide_conf.proofs.Steps.{last_given-more, last_given-same, last_given-given, options_same, list_any-more}
use Rattle.aide_conf.proofs.Steps.{counted-fixed, counted-open, counted-more, counted-fixes}

-- ---- effects that leave something as it was

-- nothing but variables is touched
pub record SetsOnlyVariables (r : Effect) : Type 0 where
  pub group : group_name_of r ≡ None
  pub fixing : fixes_by r ≡ false
  pub level : level_by r ≡ None
  pub switch : (t : Switch) → switch_by t r ≡ None
  pub attrs : (l : AttrList) (v : Option (Result AttrSet ExprFault)) → attrs_by l r v ≡ None
  pub path : (d : Side) → path_by d r ≡ None

-- no variable is touched
pub record SetsNone (r : Effect) : Type 0 where
  pub value : (n : List ℕ) → variable_by n r ≡ None
  pub name : variable_name_of r ≡ None

defines_only : {n v : List ℕ} → SetsOnlyVariables (DefinesVariable n v)
defines_only = assumption

drops_only : {n : List ℕ} → SetsOnlyVariables (DropsVariable n)
drops_only = assumption

-- ---- groups

names-more : (xs : List Marked) (x : Marked)
    → group_names (xs ++ x ∷ []) ≡ add_name (group_name_of (says x)) (group_names xs)
unfolding group_names
names-more xs x = ap (names_given group_name_of) (reverse-append xs (x ∷ []))

groups_same : (xs : List Marked) (x : Marked) (table : Sets) → HasGroups xs table → group_name_of (says x) ≡ None
    → HasGroups (xs ++ x ∷ []) table
groups_same xs x table h e = search (rules, names-more, last_given-same)

get-more : (table : Sets) (n : List ℕ) (set : AttrSet) (m : List ℕ)
    → get (insert table n set) m ≡ cond (same m n) (Some set) (get table m)
get-more table n set m =
    get-insert nat_list_cmp_total table n set m ∙ ap (λ z. cond z (Some set) (get table m)) (sym (texts_ties m n))

chosen_group : (c : Bool) (set : AttrSet) (g : Option AttrSet)
    → cond c (Some set) g ≡ option_or (if c then Some set else None) g
chosen_group true set g = refl
chosen_group false set g = refl

groups_define : (xs : List Marked) (x : Marked) (table : Sets) → HasGroups xs table → (n text : List ℕ) (set : AttrSet)
    → says x ≡ DefinesGroup n text → set_meant x.verdict ≡ Some set
    → HasGroups (xs ++ x ∷ []) (insert table n set)
groups_define xs x table h n text set e v =
    let more : group_names (xs ++ x ∷ []) ≡ add_name (Some n) (group_names xs) = names-more xs x
    ∙ ap (λ z. add_name (group_name_of z) (group_names xs)) e in
    record {
      sets = λ m. get-more table n set m ∙ ap (cond (same m n) (Some set)) (h.sets m) ∙ chosen_group (same m n) set (group xs m)
          ∙ ap (λ z. option_or (if same m n then z else None) (group xs m)) (sym v)
          ∙ ap (λ z. option_or z (group xs m)) (sym (ap (λ z. if is_name m (group_name_of z) then set_meant x.verdict else None) e))
          ∙ sym (last_given-more (group_in m) xs x);
      known = λ m. ap (list_any (same m)) more ∙ known_more m (same m n) refl (list_any (same n) (group_names xs)) refl
          ∙ ap is_some (sym (get-more table n set m));
      size = len-insert nat_list_cmp_total table n set ∙ ap (λ z. cond z (len table) (len table + 1)) (sym (h.known n))
          ∙ size_more (list_any (same n) (group_names xs)) ∙ ap length (sym more);
    }
  where
    known_more : (m : List ℕ) (c : Bool) → same m n ≡ c → (k : Bool) → list_any (same n) (group_names xs) ≡ k
        → list_any (same m) (if k then group_names xs else n ∷ group_names xs) ≡ is_some (cond c (Some set) (get table m))
    known_more m true f true k = ap (λ z. list_any (same z) (group_names xs)) (exact m n f) ∙ k
    known_more m true f false k = ap (λ z. z || list_any (same m) (group_names xs)) f
    known_more m false f true k = h.known m
    known_more m false f false k = ap (λ z. z || list_any (same m) (group_names xs)) f ∙ h.known m

    size_more : (k : Bool)
        → cond k (len table) (len table + 1) ≡ length (if k then group_names xs else n ∷ group_names xs)
    size_more true = h.size
    size_more false = omega (arith, h.size)

pub few : (xs : List Marked) (table : Sets) → HasGroups xs table → (n : List ℕ)
    → IsSome (get table n) ⊎ (len table < 1024) → is_too_many xs n ≡ false
unfolding is_too_many
few xs table h n (inl k) = let e : list_any (same n) (group_names xs) ≡ true = h.known n ∙ k in rw e refl
few xs table h n (inr k) = search (rules, nat_tests)

pub many : (xs : List Marked) (table : Sets) → HasGroups xs table → (n : List ℕ) → IsFull table n
    → is_too_many xs n ≡ true
unfolding is_too_many
many xs table h n k = search (rules, nat_tests)

pub looks : (xs : List Marked) (table : Sets) → HasGroups xs table → meaning_of table ≡ meaning_after xs
unfolding meaning_of
looks xs table h = fun_ext (λ n. ap (λ z. option_or (option_map has z) (predefined n)) (h.sets n))

-- ---- the state after one more place

module _ {A : Type 0} (xs : List Marked) (x : Marked) (p : SettingsBuilder A) (s : IsBuiltFrom xs p) where
  fixed_kept : fixes x ≡ false → p.fixed ≡ list_any fixes (xs ++ x ∷ [])
  fixed_kept f = s.fixed ∙ sym (list_any-more xs x ∙ ap (λ z. list_any fixes xs || z) f ∙ or-false (list_any fixes xs))

  options_fixed : (o : Options) → p.fixed ≡ true → AreOptions (counted xs) o → AreOptions (counted (xs ++ x ∷ [])) o
  options_fixed o e h = subst (λ z. AreOptions z o) (sym (counted-fixed xs x (sym s.fixed ∙ e))) h

  options_open : (o q : Options) → p.fixed ≡ false → fixes x ≡ false → AreOptions (counted xs) o
      → (AreOptions xs o → AreOptions (xs ++ x ∷ []) q) → AreOptions (counted (xs ++ x ∷ [])) q
  options_open o q e f h step = search (rules, counted-more, counted-open)

  options_kept : (r : Effect) → says x ≡ r → fixes_by r ≡ false → level_by r ≡ None
      → ((t : Switch) → switch_by t r ≡ None) → ((l : AttrList) → attrs_by l r x.verdict ≡ None)
      → AreOptions (counted (xs ++ x ∷ [])) p.options
  options_kept r e f l t a = by p.fixed refl
    where
      by : (b : Bool) → p.fixed ≡ b → AreOptions (counted (xs ++ x ∷ [])) p.options
      by true g = options_fixed p.options g s.options
      by false g = options_open p.options p.options g (ap fixes_by e ∙ f) s.options
          (λ h. options_same xs x p.options h (ap level_by e ∙ l) (λ w. ap (switch_by w) e ∙ t w)
          (λ w. ap (λ z. attrs_by w z x.verdict) e ∙ a w))

  path_kept : (d : Side) (o : Option (List ℕ)) → o ≡ path_set d xs → path_in d x ≡ None
      → o ≡ path_set d (xs ++ x ∷ [])
  path_kept d o h e = h ∙ sym (last_given-same (path_in d) xs x e)

  -- nothing is said of anything but variables
  stands_with : (r : Effect) → says x ≡ r → SetsOnlyVariables r → (v : Names (Vec ℕ A)) → HasVariables (xs ++ x ∷ []) (values_of v)
      → IsBuiltFrom (xs ++ x ∷ []) (record p { variables = v })
  stands_with r e q v h = record {
    groups = groups_same xs x (names_of p.groups) s.groups (ap group_name_of e ∙ q.group);
    variables = h;
    options = options_kept r e q.fixing q.level q.switch (λ l. q.attrs l x.verdict);
    fixed = fixed_kept (ap fixes_by e ∙ q.fixing);
    old_path = path_kept Old (text_at p.old_path) s.old_path (ap (path_by Old) e ∙ q.path Old);
    new_path = path_kept New (text_at p.new_path) s.new_path (ap (path_by New) e ∙ q.path New);
  }

  no_variables : (r : Effect) → says x ≡ r → SetsNone r → HasVariables (xs ++ x ∷ []) (values_of p.variables)
  no_variables r e n = variables_same xs x (values_of p.variables) s.variables (λ m. ap (variable_by m) e ∙ n.value m)
      (ap variable_name_of e ∙ n.name)

  -- nothing is said
  pub built_same : (r : Effect) → says x ≡ r → SetsOnlyVariables r → SetsNone r → IsBuiltFrom (xs ++ x ∷ []) p
  built_same r e q n = stands_with r e q p.variables (no_variables r e n)

  -- a variable is set
  pub built_set : (n v : List ℕ) (q : SettingsBuilder A) → says x ≡ DefinesVariable n v → values_of q.variables
      ≡ insert (values_of p.variables) n v → q ≡ record p { variables = q.variables } → IsBuiltFrom (xs ++ x ∷ []) q
  built_set n v q e t k = subst (IsBuiltFrom (xs ++ x ∷ [])) (sym k)
      (stands_with (DefinesVariable n v) e defines_only q.variables
      (subst (HasVariables (xs ++ x ∷ [])) (sym t) (variables_set xs x (values_of p.variables) s.variables n v e)))

  -- a variable is no longer defined
  pub built_unset : (n : List ℕ) (q : SettingsBuilder A) → says x ≡ DropsVariable n → values_of q.variables
      ≡ remove (values_of p.variables) n → q ≡ record p { variables = q.variables } → IsBuiltFrom (xs ++ x ∷ []) q
  built_unset n q e t k = subst (IsBuiltFrom (xs ++ x ∷ [])) (sym k)
      (stands_with (DropsVariable n) e drops_only q.variables
      (subst (HasVariables (xs ++ x ∷ [])) (sym t) (variables_unset xs x (values_of p.variables) s.variables n e)))

  -- report options are set, or are fixed
  options_set : (r : Effect) → says x ≡ r → group_name_of r ≡ None → path_by Old r ≡ None → path_by New r ≡ None → SetsNone r
      → (o : Options) (b : Bool) → AreOptions (counted (xs ++ x ∷ [])) o → b ≡ list_any fixes (xs ++ x ∷ [])
      → IsBuiltFrom (xs ++ x ∷ []) (record p { options = o; fixed = b })
  options_set r e g old new n o b h f = record {
    groups = groups_same xs x (names_of p.groups) s.groups (ap group_name_of e ∙ g);
    variables = no_variables r e n;
    options = h;
    fixed = f;
    old_path = path_kept Old (text_at p.old_path) s.old_path (ap (path_by Old) e ∙ old);
    new_path = path_kept New (text_at p.new_path) s.new_path (ap (path_by New) e ∙ new);
  }

  -- a report option is set
  pub built_option : (r : Effect) (o : Options) → says x ≡ r → fixes_by r ≡ false → group_name_of r ≡ None
      → path_by Old r ≡ None → path_by New r ≡ None → SetsNone r
      → (AreOptions xs p.options → AreOptions (xs ++ x ∷ []) o) → IsBuiltFrom (xs ++ x ∷ []) (unless_fixed p o)
  built_option r o e f g a b n step = by p.fixed refl
    where
      by : (t : Bool) → p.fixed ≡ t → IsBuiltFrom (xs ++ x ∷ []) (if t then p else record p { options = o })
      by true h = options_set r e g a b n p.options p.fixed (options_fixed p.options h s.options) (fixed_kept (ap fixes_by e ∙ f))
      by false h = options_set r e g a b n o p.fixed (options_open p.options o h (ap fixes_by e ∙ f) s.options step)
          (fixed_kept (ap fixes_by e ∙ f))

  -- the report options are fixed
  pub built_fixed : says x ≡ EndsOptions → IsBuiltFrom (xs ++ x ∷ []) (record p { fixed = true })
  built_fixed e = options_set EndsOptions e refl refl refl (record { value = λ m. refl; name = refl }) p.options true (by p.fixed refl)
      (sym (list_any-more xs x ∙ ap (λ z. list_any fixes xs || z) (ap fixes_by e) ∙ or-true (list_any fixes xs)))
    where
      by : (b : Bool) → p.fixed ≡ b → AreOptions (counted (xs ++ x ∷ [])) p.options
      by true g = options_fixed p.options g s.options
      by false g = search (rules, counted-open, counted-fixes)

  -- a database is named
  pub built_named : (d : Side) (path : List ℕ) (q : SettingsBuilder A) → says x ≡ NamesDatabase d path → NamesPath d path p q
      → IsBuiltFrom (xs ++ x ∷ []) q
  built_named Old path q e h = subst (IsBuiltFrom (xs ++ x ∷ [])) (sym h.1) (record {
    groups = groups_same xs x (names_of p.groups) s.groups (ap group_name_of e);
    variables = no_variables (NamesDatabase Old path) e (record { value = λ m. refl; name = refl });
    options = options_kept (NamesDatabase Old path) e refl refl (λ t. refl) (λ l. refl);
    fixed = fixed_kept (ap fixes_by e);
    old_path = h.0 ∙ sym (last_given-given (path_in Old) xs x path (ap (path_by Old) e));
    new_path = path_kept New (text_at p.new_path) s.new_path (ap (path_by New) e);
  })
  built_named New path q e h = subst (IsBuiltFrom (xs ++ x ∷ [])) (sym h.1) (record {
    groups = groups_same xs x (names_of p.groups) s.groups (ap group_name_of e);
    variables = no_variables (NamesDatabase New path) e (record { value = λ m. refl; name = refl });
    options = options_kept (NamesDatabase New path) e refl refl (λ t. refl) (λ l. refl);
    fixed = fixed_kept (ap fixes_by e);
    old_path = path_kept Old (text_at p.old_path) s.old_path (ap (path_by Old) e);
    new_path = h.0 ∙ sym (last_given-given (path_in New) xs x path (ap (path_by New) e));
  })

  -- a group is defined
  pub built_defined : (n text : List ℕ) (set : AttrSet) (q : SettingsBuilder A) → says x ≡ DefinesGroup n text
      → set_meant x.verdict ≡ Some set → HasNewGroup n set p q → IsBuiltFrom (xs ++ x ∷ []) q
  built_defined n text set q e v h = subst (IsBuiltFrom (xs ++ x ∷ [])) (sym h.others) (record {
    groups = subst (HasGroups (xs ++ x ∷ [])) (sym h.table) (groups_define xs x (names_of p.groups) s.groups n text set e v);
    variables = no_variables (DefinesGroup n text) e (record { value = λ m. refl; name = refl });
    options = options_kept (DefinesGroup n text) e refl refl (λ t. refl) (λ l. refl);
    fixed = fixed_kept (ap fixes_by e);
    old_path = path_kept Old (text_at p.old_path) s.old_path (ap (path_by Old) e);
    new_path = path_kept New (text_at p.new_path) s.new_path (ap (path_by New) e);
  })
