pub mod ExampleRun
pub mod ExampleSynchronous
pub mod QuorumStates
pub mod QuorumActing
pub mod ExampleQuorum
