-- What a hub replies to commands on handles, lanes and guards by number, and what they leave.
use Rattle.std.specs.Prelude.{◌≡◌, ℕ, Bool, true, false, List, [], ◌∷◌, ◌++◌, Option, Some, None, Result, Ok, Err, length, slice_get}
use Rattle.std.specs.Prelude.{slice_set}
use Rattle.std.specs.Option.{option_map}
use Rattle.tracing_core.specs.Commands.{AddGives, GateGives, RegisterGives, reached, callsite_with}
use Rattle.tracing_core.specs.Defaults.{was_set, holding, letting_go, global_refusal, globally, default_refusal, locally, guard_of, running}
use Rattle.tracing_core.specs.Defaults.{end_gives, reset_gives}
use Rattle.tracing_core.specs.Handles.{given_back, hold_refusal}
use Rattle.tracing_core_fields.specs.requests.Refusals.{or_refused, or_same}
use Rattle.tracing_core.specs.CachePreservation.{PreservesCachesBy}
use Rattle.tracing_core.specs.CacheRefresh.{Rebuilt, Refreshed}
use Rattle.tracing_core.specs.Table.{Table}
use Rattle.tracing_core_moments.specs.declared.at.At.{At}
use Rattle.tracing_core_fields.specs.declared.requests.callsite.Callsite.{Ghosts as SiteGhosts}
use Rattle.tracing_core.specs.declared.guard.DefaultGuard.{DefaultGuard}
use Rattle.tracing_core.specs.declared.guard.WrongLane.{WrongLane}
use Rattle.tracing_core.specs.declared.hub.parts.Lane.{Lane}
use Rattle.tracing_core.specs.declared.hub.parts.Lane.TheVariants.{Running}
use Rattle.tracing_core.specs.declared.hub.parts.LaneDefault.{LaneDefault}
use Rattle.tracing_core.specs.declared.hub.parts.LaneDefault.TheVariants.{Unset}
use Rattle.tracing_core.specs.declared.refusal.HandleError.{HandleError}
use Rattle.tracing_core.specs.declared.refusal.HandleError.TheVariants.{Unknown, TooMany}
use Rattle.tracing_core.specs.declared.refusal.SetDefaultError.{SetDefaultError}
use Rattle.tracing_core.specs.declared.refusal.SetDefaultError.TheVariants as own
use Rattle.tracing_core.specs.declared.refusal.SetGlobalDefaultError.{SetGlobalDefaultError}
use Rattle.tracing_core.specs.declared.refusal.UnknownLane.{UnknownLane}
use Rattle.tracing_core.specs.declared.run.command.Command.{Command}
use Rattle.tracing_core.specs.declared.run.command.Command.TheVariants as command
use Rattle.tracing_core.specs.declared.run.command.CommandError.TheVariants as error
use Rattle.tracing_core.specs.declared.run.command.CommandReply.{CommandReply}
use Rattle.tracing_core.specs.declared.run.command.CommandReply.TheVariants as reply
use Rattle.tracing_core_fields.specs.declared.requests.subscriber.Subscriber.{Ghosts}

-- what each handle, each weak handle and each guard leads to, by number; what is spent leads nowhere
pub record PlainBook : Type 0 where
  pub handles : List (Option (Option ℕ))
  pub weak : List (Option ℕ)
  pub guards : List (Option DefaultGuard)

abbrev pub empty_book : PlainBook
empty_book = record { handles = []; weak = []; guards = [] }

abbrev pub unspent : {A : Type 0} → Option (Option A) → Option A
unspent None = None
unspent (Some item) = item

-- what has the number, where it isn't spent
abbrev pub item_of : {A : Type 0} → List (Option A) → ℕ → Option A
item_of items number = unspent (slice_get items number)

-- what is left where the item with the number is spent, if there is one
abbrev pub spent_by : {A : Type 0} → List (Option A) → ℕ → Option A → List (Option A)
spent_by items number None = items
spent_by items number (Some item) = slice_set items number None

-- what a handle leads to, where no number is the handle to no subscriber
abbrev pub named : List (Option (Option ℕ)) → Option ℕ → Option (Option ℕ)
named handles None = Some None
named handles (Some number) = item_of handles number

-- a guard that comes back stays under its number
abbrev pub guards_after : {S : Type 0} → List (Option DefaultGuard) → ℕ → Result (Option S) WrongLane → List (Option DefaultGuard)
guards_after guards number (Ok released) = slice_set guards number None
guards_after guards number (Err wrong) = guards

module _ {S C : Type 0} where
  -- refused for lack of memory with nothing changed, or else what the command gives: asked where nothing else refuses
  abbrev pub OrNoRoom : CommandReply S C → Type 0 → Type 0 → Type 0
  OrNoRoom (reply.Refused error.OutOfMemory) same gives = same
  OrNoRoom other same gives = gives

  abbrev pub end_reply : Result (Option S) UnknownLane → CommandReply S C
  end_reply (Ok released) = reply.Released released
  end_reply (Err unknown) = reply.Refused error.UnknownLane

  abbrev pub global_reply : Result (Unit {0}) SetGlobalDefaultError → CommandReply S C
  global_reply (Ok done) = reply.Done
  global_reply (Err refusal) = reply.Refused (error.SetGlobalDefault refusal)

  abbrev pub reset_reply : Result (Option S) WrongLane → CommandReply S C
  reset_reply (Ok released) = reply.Released released
  reset_reply (Err wrong) = reply.Refused error.WrongLane

  -- a new lane has the next number
  abbrev pub LaneRuns : Table S C → CommandReply S C → Table S C → Type 0
  LaneRuns t (reply.Lane lane) u = (lane ≡ length t.lanes) ×
      (u ≡ record t { lanes = t.lanes ++ Running Unset ∷ []; entered = t.entered ++ false ∷ [] })
  LaneRuns t (reply.Refused error.OutOfMemory) u = u ≡ t
  LaneRuns t other u = ⊥

  abbrev pub global_gives : Table S C → Option (Option ℕ) → CommandReply S C × Table S C
  global_gives t None = (reply.Refused error.UnknownHandle, t)
  global_gives t (Some dispatch) =
      (global_reply (or_refused (global_refusal t dispatch) tt), or_same (global_refusal t dispatch) t (globally t dispatch))

  -- a new guard has the next number
  abbrev pub set_default_gives : Table S C → List (Option DefaultGuard) → ℕ → Option ℕ → (CommandReply S C × Table S C) ×
      List (Option DefaultGuard)
  set_default_gives t guards lane dispatch = ((reply.Guard (length guards), locally t lane dispatch), guards ++ Some (guard_of t lane) ∷ [])

  abbrev pub SetDefaultRunsAt : Table S C → List (Option DefaultGuard) → ℕ → Option ℕ → Option SetDefaultError → CommandReply S C →
      Table S C → List (Option DefaultGuard) → Type 0
  SetDefaultRunsAt t guards lane dispatch (Some refusal) answer u left = (answer ≡ reply.Refused (error.SetDefault refusal)) × (u ≡ t) ×
      (left ≡ guards)
  SetDefaultRunsAt t guards lane dispatch None answer u left =
      OrNoRoom answer ((u ≡ t) × (left ≡ guards)) (((answer, u), left) ≡ set_default_gives t guards lane dispatch)

  abbrev pub SetDefaultRunsIn : Table S C → List (Option DefaultGuard) → ℕ → Option LaneDefault → Option (Option ℕ) → CommandReply S C →
      Table S C → List (Option DefaultGuard) → Type 0
  SetDefaultRunsIn t guards lane None dispatch answer u left = (answer ≡ reply.Refused (error.SetDefault own.UnknownLane)) × (u ≡ t) ×
      (left ≡ guards)
  SetDefaultRunsIn t guards lane (Some setting) None answer u left = (answer ≡ reply.Refused error.UnknownHandle) × (u ≡ t) ×
      (left ≡ guards)
  SetDefaultRunsIn t guards lane (Some setting) (Some dispatch) answer u left =
      SetDefaultRunsAt t guards lane dispatch (default_refusal t lane dispatch) answer u left

  -- a default is set where nothing refuses it: the lane is looked at first, then the handle
  abbrev pub SetDefaultRuns : Table S C → List (Option DefaultGuard) → ℕ → Option (Option ℕ) → CommandReply S C → Table S C →
      List (Option DefaultGuard) → Type 0
  SetDefaultRuns t guards lane dispatch answer u left = SetDefaultRunsIn t guards lane (running (slice_get t.lanes lane)) dispatch answer u
      left

  -- a guard that was never made, or is spent, is none of this lane's
  abbrev pub reset_runs_by : Table S C → List (Option DefaultGuard) → ℕ → ℕ → Option DefaultGuard → (CommandReply S C × Table S C) ×
      List (Option DefaultGuard)
  reset_runs_by t guards lane number None = ((reply.Refused error.WrongLane, t), guards)
  reset_runs_by t guards lane number (Some guard) =
      ((reset_reply (reset_gives t lane guard).0, (reset_gives t lane guard).1), guards_after guards number (reset_gives t lane guard).0)

  abbrev pub reset_runs_at : Table S C → List (Option DefaultGuard) → ℕ → ℕ → Option Lane → (CommandReply S C × Table S C) ×
      List (Option DefaultGuard)
  reset_runs_at t guards lane number None = ((reply.Refused error.UnknownLane, t), guards)
  reset_runs_at t guards lane number (Some given) = reset_runs_by t guards lane number (item_of guards number)

  -- the lane is looked at first, then the guard
  abbrev pub reset_runs : Table S C → List (Option DefaultGuard) → ℕ → ℕ → (CommandReply S C × Table S C) × List (Option DefaultGuard)
  reset_runs t guards lane number = reset_runs_at t guards lane number (slice_get t.lanes lane)

  -- a further handle has the next number
  abbrev pub hold_gives : Table S C → List (Option (Option ℕ)) → Option ℕ → (CommandReply S C × Table S C) × List (Option (Option ℕ))
  hold_gives t handles dispatch = ((reply.Handle (length handles), holding t dispatch), handles ++ Some dispatch ∷ [])

  -- a further handle, where nothing refuses it
  abbrev pub HoldRuns : Table S C → List (Option (Option ℕ)) → Option ℕ → (HandleError → CommandReply S C) → Option HandleError →
      CommandReply S C → Table S C → List (Option (Option ℕ)) → Type 0
  HoldRuns t handles dispatch told (Some refusal) answer u left = (answer ≡ told refusal) × (u ≡ t) × (left ≡ handles)
  HoldRuns t handles dispatch told None answer u left = OrNoRoom answer ((u ≡ t) × (left ≡ handles))
      (((answer, u), left) ≡ hold_gives t handles dispatch)

  abbrev pub clone_refused : HandleError → CommandReply S C
  clone_refused refusal = reply.Refused (error.Handle refusal)

  abbrev pub CloneRunsAt : Table S C → List (Option (Option ℕ)) → Option (Option ℕ) → CommandReply S C → Table S C →
      List (Option (Option ℕ)) → Type 0
  CloneRunsAt t handles None answer u left = (answer ≡ reply.Refused error.UnknownHandle) × (u ≡ t) × (left ≡ handles)
  CloneRunsAt t handles (Some dispatch) answer u left = HoldRuns t handles dispatch clone_refused (hold_refusal dispatch t.subscribers)
      answer u left

  -- a handle becomes two
  abbrev pub CloneRuns : Table S C → List (Option (Option ℕ)) → ℕ → CommandReply S C → Table S C → List (Option (Option ℕ)) → Type 0
  CloneRuns t handles number answer u left = CloneRunsAt t handles (item_of handles number) answer u left

  abbrev pub DowngradeRunsAt : List (Option ℕ) → Option (Option ℕ) → CommandReply S C → List (Option ℕ) → Type 0
  DowngradeRunsAt weak None answer left = (answer ≡ reply.Refused error.UnknownHandle) × (left ≡ weak)
  DowngradeRunsAt weak (Some dispatch) answer left =
      OrNoRoom answer (left ≡ weak) ((answer ≡ reply.Weak (length weak)) × (left ≡ weak ++ dispatch ∷ []))

  -- a weak handle has the next number of these
  abbrev pub DowngradeRuns : List (Option (Option ℕ)) → List (Option ℕ) → ℕ → CommandReply S C → List (Option ℕ) → Type 0
  DowngradeRuns handles weak number answer left = DowngradeRunsAt weak (item_of handles number) answer left

  -- the subscriber of a weak handle may have been released
  abbrev pub upgrade_refused : HandleError → CommandReply S C
  upgrade_refused Unknown = reply.Gone
  upgrade_refused TooMany = reply.Refused error.TooManyHandles

  abbrev pub UpgradeRunsAt : Table S C → List (Option (Option ℕ)) → Option (Option ℕ) → CommandReply S C → Table S C →
      List (Option (Option ℕ)) → Type 0
  UpgradeRunsAt t handles None answer u left = (answer ≡ reply.Refused error.UnknownWeakHandle) × (u ≡ t) × (left ≡ handles)
  UpgradeRunsAt t handles (Some dispatch) answer u left = HoldRuns t handles dispatch upgrade_refused (hold_refusal dispatch t.subscribers)
      answer u left

  -- a weak handle becomes a handle where its subscriber lives
  abbrev pub UpgradeRuns : Table S C → List (Option ℕ) → List (Option (Option ℕ)) → ℕ → CommandReply S C → Table S C →
      List (Option (Option ℕ)) → Type 0
  UpgradeRuns t weak handles number answer u left = UpgradeRunsAt t handles (slice_get weak number) answer u left

  abbrev pub release_gives_at : Table S C → List (Option (Option ℕ)) → ℕ → Option (Option ℕ) → (CommandReply S C × Table S C) ×
      List (Option (Option ℕ))
  release_gives_at t handles number None = ((reply.Refused error.UnknownHandle, t), handles)
  release_gives_at t handles number (Some dispatch) = (
    (reply.Released (given_back dispatch t.subscribers).0, letting_go t dispatch),
    slice_set handles number None,
  )

  -- a handle is spent
  abbrev pub release_gives : Table S C → List (Option (Option ℕ)) → ℕ → (CommandReply S C × Table S C) × List (Option (Option ℕ))
  release_gives t handles number = release_gives_at t handles number (item_of handles number)

-- whether a command may give up a handle or a default, so that a subscriber may be released
abbrev pub gives_up : {S C : Type 0} → Command S C → Bool
gives_up (command.EndThread lane) = true
gives_up (command.Reset lane guard) = true
gives_up (command.Release handle) = true
gives_up other = false

abbrev pub GivesNothingUp : {S C : Type 0} → Command S C → Type 0
GivesNothingUp x = gives_up x ≡ false

module _ {S : Type 0} (g : Ghosts S) {C : Type 0} (h : SiteGhosts C) where
  -- a subscriber that was taken has a first handle with the next number
  abbrev pub AddRuns : Table S C → List (Option (Option ℕ)) → S → CommandReply S C → Table S C → List (Option (Option ℕ)) → Type 0
  AddRuns t handles s (reply.Handle number) u left = (number ≡ length handles) × AddGives g h t s (Ok (Some t.next)) u ×
      (left ≡ handles ++ Some (Some t.next) ∷ [])
  AddRuns t handles s (reply.Refused (error.Add refusal)) u left = AddGives g h t s (Err refusal) u × (left ≡ handles)
  AddRuns t handles s other u left = ⊥

  abbrev pub RegisterRuns : Table S C → C → CommandReply S C → Table S C → Type 0
  RegisterRuns t callsite (reply.Registered interest) u = RegisterGives g h t callsite (Ok interest) u
  RegisterRuns t callsite (reply.Refused (error.Register refusal)) u = RegisterGives g h t callsite (Err refusal) u
  RegisterRuns t callsite other u = ⊥

  abbrev pub GateRuns : Table S C → ℕ → At → CommandReply S C → Table S C → Type 0
  GateRuns t identifier at (reply.Wanted wanted) u = GateGives g h t identifier at wanted u
  GateRuns t identifier at other u = ⊥

  -- what the hub replies to a command, and what it and the book are then
  abbrev pub CommandGives : Table S C → PlainBook → Command S C → CommandReply S C → Table S C → PlainBook → Type 0
  CommandGives t b command.Thread answer u c = LaneRuns t answer u × (c ≡ b)
  CommandGives t b (command.EndThread lane) answer u c = (answer ≡ end_reply (end_gives t lane).0) × (u ≡ (end_gives t lane).1) × (c ≡ b)
  CommandGives t b (command.Add subscriber) answer u c = AddRuns t b.handles subscriber answer u c.handles ×
      (c ≡ record b { handles = c.handles })
  CommandGives t b (command.Register callsite) answer u c = RegisterRuns t callsite answer u × (c ≡ b)
  CommandGives t b command.RebuildInterestCache answer u c = (answer ≡ reply.Done) × Rebuilt g h t u × (c ≡ b)
  CommandGives t b command.Refresh answer u c = (answer ≡ reply.Done) × Refreshed g h t u × (c ≡ b)
  CommandGives t b command.MaxLevel answer u c = (answer ≡ reply.Level t.greatest) × (u ≡ t) × (c ≡ b)
  CommandGives t b (command.SetGlobalDefault handle) answer u c = ((answer, u) ≡ global_gives t (named b.handles handle)) × (c ≡ b)
  CommandGives t b command.HasBeenSet answer u c = (answer ≡ reply.Set (was_set t.global)) × (u ≡ t) × (c ≡ b)
  CommandGives t b (command.SetDefault lane handle) answer u c =
      SetDefaultRuns t b.guards lane (named b.handles handle) answer u c.guards × (c ≡ record b { guards = c.guards })
  CommandGives t b (command.Reset lane guard) answer u c =
      (((answer, u), c.guards) ≡ reset_runs t b.guards lane guard) × (c ≡ record b { guards = c.guards })
  CommandGives t b (command.CloneHandle handle) answer u c = CloneRuns t b.handles handle answer u c.handles ×
      (c ≡ record b { handles = c.handles })
  CommandGives t b (command.Downgrade handle) answer u c = DowngradeRuns b.handles b.weak handle answer c.weak × (u ≡ t) ×
      (c ≡ record b { weak = c.weak })
  CommandGives t b (command.Upgrade weak) answer u c = UpgradeRuns t b.weak b.handles weak answer u c.handles ×
      (c ≡ record b { handles = c.handles })
  CommandGives t b (command.Release handle) answer u c =
      (((answer, u), c.handles) ≡ release_gives t b.handles handle) × (c ≡ record b { handles = c.handles })
  CommandGives t b (command.Gate identifier at) answer u c = GateRuns t identifier.0 at answer u × (c ≡ b)
  CommandGives t b (command.Interest identifier) answer u c =
      (answer ≡ reply.Kept (option_map (λ row. row.interest) (callsite_with identifier.0 t.callsites))) × (u ≡ t) × (c ≡ b)
  CommandGives t b (command.Reached lane) answer u c = (answer ≡ reply.Reached (reached t lane)) × (u ≡ t) × (c ≡ b)

  -- what a command leaves of what the hub knows
  abbrev pub CommandKeeps : Command S C → Table S C → Table S C → Type 0
  CommandKeeps x t u = PreservesCachesBy g h (gives_up x) t u

  -- the commands one after the other, with a reply each
  abbrev pub CommandsGive : Table S C → PlainBook → List (Command S C) → List (CommandReply S C) → Table S C → PlainBook → Type 0
  CommandsGive t b [] [] u c = (u ≡ t) × (c ≡ b)
  CommandsGive t b [] (answer ∷ answers) u c = ⊥
  CommandsGive t b (x ∷ xs) [] u c = ⊥
  CommandsGive t b (x ∷ xs) (answer ∷ answers) u c =
      (v : Table S C) × (d : PlainBook) × CommandGives t b x answer v d × CommandsGive v d xs answers u c
