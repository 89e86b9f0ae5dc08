-- The head of a generated script.
use Rattle.std.specs.Prelude.{List, [], ◌∷◌, codes, refl}
use Rattle.pat_base.specs.Name.{name_from}
use Rattle.pat_base.specs.declared.name.Name.{Name}
use Rattle.store_keys.specs.Defaults.{default_settings}
use Rattle.leader_key.specs.declared.watchdog.Mode.TheVariants as modes
use Rattle.member_options.specs.Options.{unsaid_options}
use Rattle.member_options.specs.declared.member_option.MemberOptions.{MemberOptions}
use Rattle.script_model.specs.Script.{MemberText, HeadText, default_base}

-- the name of the cluster
abbrev pub generated_cluster : Name
generated_cluster = name_from (codes "gen") refl

-- the names of the members
abbrev pub first_name : Name
first_name = name_from (codes "a") refl

abbrev pub second_name : Name
second_name = name_from (codes "b") refl

abbrev pub third_name : Name
third_name = name_from (codes "c") refl

-- what is declared of each member: nothing but that its watchdog is required
abbrev pub generated_options : MemberOptions
generated_options = record unsaid_options { watchdog = modes.Required }

-- a member of this name
abbrev pub generated_member : Name → MemberText
generated_member name = record { name = name; options = generated_options }

-- the members: a, b and c
abbrev pub generated_members : List MemberText
generated_members = generated_member first_name ∷ generated_member second_name ∷ generated_member third_name ∷ []

-- the head, without a configuration
abbrev pub generated_head : HeadText
generated_head =
    record { cluster = generated_cluster; config = default_settings; base = default_base; members = generated_members }
